use Rattle.std.proofs.Common.{◌≡◌, ◌+◌, ◌≤◌, ◌++◌, length}
use Rattle.km_names.specs.Lines.{lines_of, joined_lines, statements, conf_lines}
use Rattle.km_names.proofs.lines.conf_lines.Given as goal

abbrev pub invariant-loop-rest : goal.invariant-loop-rest
invariant-loop-rest l =
    (l.lines ++ statements (joined_lines l.number (lines_of l.rest)) ≡ conf_lines l.bytes)
    × (l.number + length l.rest ≤ length l.bytes + 1)
    × (1 ≤ l.number)

abbrev pub decreases-loop-rest : goal.decreases-loop-rest
decreases-loop-rest l = length l.rest
