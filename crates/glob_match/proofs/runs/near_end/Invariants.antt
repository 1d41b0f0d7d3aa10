use Rattle.std.proofs.Common.{ℕ, List, ◌-◌, ◌≤◌}
use Rattle.glob_match.specs.Runs.{IsRun}
use Rattle.glob_match.proofs.runs.near_end.Given as goal

-- there are only stars so far
pub record Running (b : List ℕ) (start at to : ℕ) : Type 0 where
  pub run : IsRun b start at
  pub high : at ≤ to

abbrev pub invariant-loop-at : goal.invariant-loop-at
invariant-loop-at l = Running l.bytes l.start l.at l.to

abbrev pub decreases-loop-at : goal.decreases-loop-at
decreases-loop-at l = l.to - l.at
