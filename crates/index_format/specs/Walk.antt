-- The walk of a key through an index. At a node the prefix is removed from the key. If nothing is
-- left the walk ends there; otherwise the first byte that is left picks a child and is removed.
-- kmod's index format 2.1, "searching".
use Rattle.std.specs.Prelude.{ℕ, zero, suc, ◌+◌, nat_eq, List, [], ◌∷◌, length, drop, Option, Some}
use Rattle.std.specs.Prelude.{None, if◌then◌else◌}
use Rattle.std.specs.List.{starts_with}
use Rattle.index_format.specs.Map.{Value}
use Rattle.index_format.specs.Node.{root, prefix, child, values}

-- Where the walk goes from a node: it ends there, or continues to a child with the rest of the key,
-- or has nowhere to go.
pub data Step : Type 0 where
  Ends : Step
  Enters : ℕ → List ℕ → Step
  Lost : Step

-- The child, if there is one.
abbrev pub enters : Option ℕ → List ℕ → Step
enters (Some link) rest = Enters link rest
enters None rest = Lost

-- The step after the prefix was removed.
abbrev pub onward : List ℕ → ℕ → List ℕ → Step
onward b link [] = Ends
onward b link (byte ∷ rest) = enters (child b link byte) rest

unfoldable pub step : List ℕ → ℕ → List ℕ → Step
step b link key =
    if starts_with nat_eq key (prefix b link)
    then onward b link (drop (length (prefix b link)) key)
    else Lost

-- Cases on a step.
abbrev pub by_step : {A : Type 0} → Step → A → (ℕ → List ℕ → A) → A → A
by_step Ends ends enters lost = ends
by_step (Enters link rest) ends enters lost = enters link rest
by_step Lost ends enters lost = lost

-- The nodes of a walk, one after the other, and the one that the key ends at, which is None if the
-- walk is lost. A node whose prefix doesn't fit is one of them.
pub record Walk : Type 0 where
  pub nodes : List ℕ
  pub reached : Option ℕ

-- A walk with one more node in front.
abbrev pub through : ℕ → Walk → Walk
through link w = record { nodes = link ∷ w.nodes; reached = w.reached }

-- The walk of a key from a node, of at most this many nodes.
unfoldable pub walk_within : List ℕ → ℕ → ℕ → List ℕ → Walk
walk_within b zero link key = record { nodes = []; reached = None }
walk_within b (suc n) link key =
    by_step (step b link key)
    (record { nodes = link ∷ []; reached = Some link })
    (λ next rest. through link (walk_within b n next rest))
    (record { nodes = link ∷ []; reached = None })

-- The walk of a key from a node. Each child takes a byte of the key, so it has at most one node
-- more than the key has bytes.
unfoldable pub walk : List ℕ → ℕ → List ℕ → Walk
walk b link key = walk_within b (length key + 1) link key

-- The values of the node that was reached.
abbrev pub values_at : List ℕ → Option ℕ → List Value
values_at b (Some link) = values b link
values_at b None = []

-- The values that a key reaches from a node, and none if its walk is lost.
unfoldable pub at : List ℕ → ℕ → List ℕ → List Value
at b link key = values_at b (walk b link key).reached

-- The number of nodes on the walk of a key from the root.
unfoldable pub visits : List ℕ → List ℕ → ℕ
visits b key = length (walk b (root b) key).nodes
