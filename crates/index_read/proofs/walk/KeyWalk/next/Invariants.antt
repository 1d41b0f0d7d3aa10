use Rattle.std.proofs.Common.{◌≡◌, ℕ, List, [], vec_len}
use Rattle.index_read.specs.declared.walk.Level.{Level}
use Rattle.index_read.specs.declared.walk.KeyWalk.{KeyWalk}
use Rattle.index_read.specs.Keys.{AreLevels, items_left}
use Rattle.index_read.specs.Walks.{left, IsWritten}
use Rattle.index_read.proofs.walk.KeyWalk.next.Given as goal

-- the levels so far had no node left, and no node was read
pub record Seeking (b : List ℕ) (start : KeyWalk) (key : List ℕ) (count : ℕ) (levels : List Level)
    (before now : ℕ) : Type 0 where
  pub are : AreLevels b levels
  pub written : IsWritten b key count levels
  pub still : items_left b [] levels ≡ left b start
  pub steps : now ≡ before

abbrev pub invariant-loop-level : goal.invariant-loop-level
invariant-loop-level g l =
    Seeking l.nodes l.fn.self l.self.key.items l.self.written l.self.levels.items l.fn.steps l.steps

abbrev pub decreases-loop-level : goal.decreases-loop-level
decreases-loop-level g l = vec_len l.self.levels
