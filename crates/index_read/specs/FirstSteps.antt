-- A walk over first values, node by node.
-- It belongs to the code: no public meaning rests on it.
use Rattle.std.specs.Prelude.{◌≡◌, ℕ, List, [], ◌∷◌, map, take, flat_map, Option, Some, None}
use Rattle.index_format.specs.Check.{index_fault}
use Rattle.index_format.specs.Listing.{KeyValue}
use Rattle.index_format.specs.Node.{values}
use Rattle.index_nodes.specs.Fields.{link_of, IsNodeOf}
use Rattle.index_nodes.specs.declared.node.Node.{Node}
use Rattle.index_read.specs.declared.walk.KeyWalk.{KeyWalk}
use Rattle.index_read.specs.Keys.{Item}
use Rattle.index_read.specs.Walks.{walk_key, left, IsWalking}

-- The key of a node with the first of its values, if it has one.
abbrev pub first_of : List ℕ → Item → List KeyValue
first_of b item = map (λ v. (item.0, v)) (take 1 (values b item.1))

-- The keys of some nodes, each with the first of its values, if it has one.
abbrev pub first_items : List ℕ → List Item → List KeyValue
first_items b items = flat_map (first_of b) items

-- The nodes still to come, with the root if it is still to be looked at.
abbrev pub still : List ℕ → KeyWalk → Option Node → List Item
still b w None = left b w
still b w (Some root) = (walk_key b w, link_of root) ∷ left b w

-- The node that the walk reached and the nodes after it, or none if it reached none.
abbrev pub reached : List ℕ → KeyWalk → Option Node → List Item
reached b w None = []
reached b w (Some node) = (walk_key b w, link_of node) ∷ left b w

-- The node that the walk reached is one, and the walk is over this file.
abbrev pub IsReached : List ℕ → KeyWalk → Option Node → Type 0
IsReached b w None = Unit {0}
IsReached b w (Some node) = IsNodeOf b node × IsWalking b w

-- The root, if it is still to be looked at, is a node of this file.
abbrev pub IsRoot : List ℕ → Option Node → Type 0
IsRoot b None = Unit {0}
IsRoot b (Some root) = IsNodeOf b root

-- The walk is over this file, which is accepted.
pub record IsOnWay (b : List ℕ) (w : KeyWalk) (first : Option Node) : Type 0 where
  pub accepted : index_fault b ≡ None
  pub walking : IsWalking b w
  pub root : IsRoot b first
