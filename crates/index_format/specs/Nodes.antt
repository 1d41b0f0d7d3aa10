-- The nodes of an index and the places of their values. kmod's index format 2.1, "node".
use Rattle.std.specs.Prelude.{◌≡◌, ℕ, ◌+◌, ◌<◌, true, List, length, drop, Some}
use Rattle.index_format.specs.Map.{Value}
use Rattle.index_format.specs.Node.{root, child, values_in}
use Rattle.index_format.specs.Check.{whole_values, arrivals, root_arrival}

-- The offset leads to a node of the file: it is the root's, or the offset of a present child of a
-- node.
pub data IsNode (b : List ℕ) : ℕ → Type 0 where
  top : IsNode b (root b)
  below : {link : ℕ} (byte next : ℕ) → IsNode b link → child b link byte ≡ Some next → IsNode b next

-- The number of nodes that a reader visits: the root, and after each node all that is below it.
unfoldable pub node_count : List ℕ → ℕ
node_count b = length (arrivals b (length b + 1) (root_arrival b))

-- The values from a place on, if this many of its node are left.
abbrev pub values_from : List ℕ → ℕ → ℕ → List Value
values_from b place left = values_in left (drop place b)

-- There is a value at the place, and it and all that are left of its node are whole.
pub record IsValuePlace (b : List ℕ) (place left : ℕ) : Type 0 where
  pub some : 0 < left
  pub whole : whole_values left (drop place b) ≡ true
