-- The exit status of each conclusion of a command. exit(3).
use Rattle.std.specs.Prelude.{ℕ}
use Rattle.km_course.specs.declared.conclusion.Conclusion.{Conclusion}
use Rattle.km_course.specs.declared.conclusion.Conclusion.TheVariants as conclusions

-- The exit status of a command that was concluded like this.
abbrev pub conclusion_status : Conclusion → ℕ
conclusion_status conclusions.Done = 0
conclusion_status conclusions.Refused = 1
conclusion_status conclusions.NotUnderstood = 2
conclusion_status conclusions.Fault = 3
conclusion_status conclusions.OutOfMemory = 4
