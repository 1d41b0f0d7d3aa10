use Rattle.std.proofs.Common.{◌≡◌, ◌≤◌, ℕ, List, length, take}
use Rattle.index_read.specs.declared.walk.Level.{Level}
use Rattle.index_read.specs.declared.walk.KeyWalk.{KeyWalk}
use Rattle.index_read.specs.Keys.{key_of}
use Rattle.index_read.proofs.walk.KeyWalk.write_key.Given as goal

-- the key has the first levels, as many as were gone over
pub record Writing (b : List ℕ) (start : KeyWalk) (key : List ℕ) (levels : List Level) (at : ℕ) :
    Type 0 where
  pub same : levels ≡ start.levels.items
  pub key_is : key ≡ key_of b (take at start.levels.items)
  pub within : at ≤ length start.levels.items

abbrev pub invariant-loop-at : goal.invariant-loop-at
invariant-loop-at l = Writing l.nodes l.fn.self l.self.key.items l.self.levels.items l.at
