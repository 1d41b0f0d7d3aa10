use Rattle.std.proofs.Common.{◌≡◌, take}
use Rattle.km_names.specs.Lines.{lines_text}
use Rattle.command_builtin_alias.proofs.course.lines_of.Given as goal

abbrev pub invariant-loop-place : goal.invariant-loop-place
invariant-loop-place l = l.text ≡ lines_text (take l.place l.names)
