use Rattle.std.proofs.Common.{ℕ, List}
use Rattle.glob_match.specs.Backward.{IsReady, IsBackward}
use Rattle.glob_match.specs.Ends.{AreEnds}
use Rattle.glob_match.specs.Progress.{IsOver}
use Rattle.glob_match.specs.declared.backward.Backward.{Backward}
use Rattle.glob_match.specs.declared.ends.Ends.{Ends}
use Rattle.glob_match.specs.declared.progress.Progress.{Progress}
use Rattle.glob_match.proofs.ends.Ends.find.Given as goal

-- the file was read from a place on
pub record Known (file : List ℕ) (p : Progress) (e : Ends) (b : Backward) (at : ℕ) : Type 0 where
  pub ready : IsReady p.size file at b
  pub back : (text : List ℕ) → IsOver p text → IsBackward file text at b
  pub ends : (text : List ℕ) → IsOver p text → AreEnds file text e

abbrev pub invariant-loop-at : goal.invariant-loop-at
invariant-loop-at l = Known l.bytes l.progress l.self l.backward l.at
