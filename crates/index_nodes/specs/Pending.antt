-- What is still to be visited.
-- It belongs to the code: no public meaning rests on it.
use Rattle.std.specs.Prelude.{◌≡◌, ℕ, zero, suc, ◌+◌, ◌*◌, ◌<◌, ◌≤◌, true, false, List, [], ◌∷◌}
use Rattle.std.specs.Prelude.{◌++◌, length, nat_eq, Option}
use Rattle.std.specs.List.{cons_option, flat_map, list_any}
use Rattle.km_names.specs.Number.{be}
use Rattle.index_format.specs.Link.{place_of}
use Rattle.index_format.specs.Node.{present, children}
use Rattle.km_names.specs.First.{first}
use Rattle.index_format.specs.Check.{Fault, Arrival, is_sound, arrivals, arrival_faults}
use Rattle.index_format.specs.Check.{root_arrival}
use Rattle.index_nodes.specs.declared.check.Pending.{Pending}
use Rattle.index_nodes.specs.declared.check.Visit.{Visit}
use Rattle.index_nodes.specs.declared.place_set.PlaceSet.{PlaceSet}
use Rattle.index_nodes.specs.Visited.{has_place}

-- The offsets of present children among this many from a place on.
unfoldable pub links_at : List ℕ → ℕ → ℕ → List ℕ
links_at b place zero = []
links_at b place (suc n) = cons_option (present (be b place 4)) (links_at b (place + 4) n)

-- The children still to be visited.
abbrev pub links_of : List ℕ → Pending → List ℕ
links_of b p = links_at b p.next p.left

-- The visit to a child of the node at a place.
abbrev pub child_arrival : ℕ → ℕ → Arrival
child_arrival above link = record { above = above; is_root = false; link = link }

-- The visits to children of the node at a place and to all nodes below them.
abbrev pub child_arrivals : List ℕ → ℕ → List ℕ → List Arrival
child_arrivals b above links = flat_map (λ link. arrivals b above (child_arrival above link)) links

-- The visits still to come, the last one's first.
abbrev pub arrivals_left : List ℕ → List Pending → List Arrival
arrivals_left b [] = []
arrivals_left b (p ∷ ps) = arrivals_left b ps ++ child_arrivals b p.above (links_of b p)

-- The offsets are in the file.
abbrev pub IsInside : List ℕ → Pending → Type 0
IsInside b p = p.next + 4 * p.left ≤ length b

-- The set has exactly the places that were visited.
abbrev pub HasPlaces : PlaceSet → List ℕ → Type 0
HasPlaces set seen = (place : ℕ) → has_place set place ≡ list_any (nat_eq place) seen

-- The arrival of a visit, as the format defines it.
abbrev pub arrival_of : Visit → Arrival
arrival_of v = record { above = v.above; is_root = v.is_root; link = v.link }

-- The visit passes, if no other was at its place, and the offsets of its node's children come after
-- these.
pub record IsVisited (b : List ℕ) (v : Visit) (before after : List ℕ) : Type 0 where
  pub low : place_of v.link < v.above
  pub sound : is_sound b (arrival_of v) ≡ true
  pub links : after ≡ before ++ children b v.link

-- What is pending after the visit to a node: its children.
pub record IsPendingOf (b : List ℕ) (link : ℕ) (p : Pending) : Type 0 where
  pub above : p.above ≡ place_of link
  pub links : links_of b p ≡ children b link
  pub inside : IsInside b p

-- The first fault at the root and at all nodes below it.
abbrev pub nodes_fault : List ℕ → Option Fault
nodes_fault b = first (arrival_faults b [] (arrivals b (length b + 1) (root_arrival b)))
