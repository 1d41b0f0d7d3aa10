use Rattle.std.proofs.Common.{◌≡◌, ℕ, ◌*◌, ◌<◌, ◌≤◌, List, length, get_or}
use Rattle.glob_match.specs.Runs.{IsRun}
use Rattle.glob_match.proofs.runs.find_ends.Given as goal

-- the runs of the blocks from one on are known
pub record Known (b ends : List ℕ) (block end count : ℕ) : Type 0 where
  pub size : length ends ≡ count
  pub here : IsRun b (block * 16) end
  pub each : (k : ℕ) → block ≤ k → k < count → IsRun b (k * 16) (get_or ends k 0)

abbrev pub invariant-loop-block : goal.invariant-loop-block
invariant-loop-block l = Known l.bytes l.ends.items l.block l.end l.count
