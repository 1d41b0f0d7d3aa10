-- What a command inside a trial resulted in, as its conclusion says. The command is this project's
-- own. It belongs to the code: no public meaning rests on it.
use Rattle.std.specs.Prelude.{◌≡◌, ℕ, List}
use Rattle.km_course.specs.Course.{Outcome}
use Rattle.km_course.specs.Course.Outcome.{value, end}
use Rattle.km_course.specs.Inner.{Left}
use Rattle.km_course.specs.declared.conclusion.Conclusion.{Conclusion}
use Rattle.km_course.specs.declared.conclusion.Conclusion.TheVariants as conclusions
use Rattle.km_course.specs.declared.end.End.TheVariants.{Inner, NotUnderstood, Refused}
use Rattle.km_course.specs.declared.refusal.Refusal.TheVariants.{InnerOutputFull}

-- The outcome is the one that the conclusion states of a command that left these files and this
-- output, and wrote this line. Its files don't fail, so that a fault is a full output.
pub record Came (outcome : Outcome Left) (left : Left) (line : List ℕ) (conclusion : Conclusion) :
    Type 0 where
  pub ended : conclusion ≡ conclusions.Done → outcome ≡ value left
  pub refused : conclusion ≡ conclusions.Refused → outcome ≡ end (Inner line)
  pub misunderstood : conclusion ≡ conclusions.NotUnderstood → outcome ≡ end NotUnderstood
  pub full : conclusion ≡ conclusions.Fault → outcome ≡ end (Refused InnerOutputFull)
