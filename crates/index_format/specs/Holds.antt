-- The files that represent a map.
use Rattle.std.specs.Prelude.{◌≡◌, ℕ, List, None}
use Rattle.index_format.specs.Map.{KeyValues, values_of}
use Rattle.index_format.specs.Node.{root}
use Rattle.index_format.specs.Walk.{at}
use Rattle.index_format.specs.Check.{index_fault}

-- A reader doesn't refuse the file, and each key reaches the map's values of the key, in their
-- order.
pub record Holds (b : List ℕ) (m : KeyValues) : Type 0 where
  pub accepted : index_fault b ≡ None
  pub values : (key : List ℕ) → at b (root b) key ≡ values_of m key
