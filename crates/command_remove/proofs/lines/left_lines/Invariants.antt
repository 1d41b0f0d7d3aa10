use Rattle.std.proofs.Common.{◌≡◌, ◌++◌, drop}
use Rattle.command_remove.specs.Lines.{left_lines}
use Rattle.command_remove.proofs.lines.left_lines.Given as goal

abbrev pub invariant-loop-i : goal.invariant-loop-i
invariant-loop-i l =
    l.text ++ left_lines (drop l.i l.machine.entries) ≡ left_lines l.machine.entries
