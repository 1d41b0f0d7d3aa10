-- A walk over the keys of an index: what is still to come, what is written of the key, and the
-- result of a step. It belongs to the code: no public meaning rests on it.
use Rattle.std.specs.Prelude.{◌≡◌, ℕ, ◌+◌, ◌-◌, ◌≤◌, List, [], ◌∷◌, ◌++◌, length, take, Option, Some}
use Rattle.std.specs.Prelude.{None, Result, Ok, Err}
use Rattle.index_nodes.specs.Fields.{link_of, IsNodeOf}
use Rattle.index_nodes.specs.declared.node.Node.{Node}
use Rattle.index_read.specs.declared.walk.Level.{Level}
use Rattle.index_read.specs.declared.walk.KeyWalk.{KeyWalk}
use Rattle.index_read.specs.Keys.{Item, key_of, items_left, AreLevels}

-- The key of the node that the walk reached last.
abbrev pub walk_key : List ℕ → KeyWalk → List ℕ
walk_key b w = key_of b w.levels.items

-- The nodes still to come.
abbrev pub left : List ℕ → KeyWalk → List Item
left b w = items_left b [] w.levels.items

-- What is written is the key of this many of the levels.
pub record IsWritten (b key : List ℕ) (count : ℕ) (levels : List Level) : Type 0 where
  pub key_is : key ≡ key_of b (take count levels)
  pub within : count ≤ length levels

-- The walk is over this file.
pub record IsWalking (b : List ℕ) (w : KeyWalk) : Type 0 where
  pub levels : AreLevels b w.levels.items
  pub written : IsWritten b w.key.items w.written w.levels.items

-- The walk reached a node.
pub record Comes (b : List ℕ) (old new : KeyWalk) (n : Node) : Type 0 where
  pub still : left b old ≡ (walk_key b new, link_of n) ∷ left b new
  pub node : IsNodeOf b n
  pub walking : IsWalking b new

-- A step of the walk: there is no node left, or it reaches the next one.
abbrev pub GoesOn : List ℕ → KeyWalk → KeyWalk → Option Node → Type 0
GoesOn b old new None = left b old ≡ []
GoesOn b old new (Some node) = Comes b old new node

-- The level of a node that a byte leads to, and a level whose children up to a byte were visited.
abbrev pub level_of : Node → Option ℕ → Level
level_of n leading = record { node = n; byte = leading; next = 0 }

abbrev pub after_byte : Level → ℕ → Level
after_byte l byte = record { node = l.node; byte = l.byte; next = byte + 1 }

-- The levels before the one that the walk is on, and that one.
abbrev pub front : List Level → List Level
front ls = take (length ls - 1) ls

abbrev pub IsTop : List Level → Level → Type 0
IsTop ls l = ls ≡ front ls ++ l ∷ []

-- What is left after a step. After a refusal it is empty.
abbrev pub left_after : {E : Type 0} → Result (Option Node) E → List ℕ → KeyWalk → List Item
left_after (Ok o) b w = left b w
left_after (Err e) b w = []
