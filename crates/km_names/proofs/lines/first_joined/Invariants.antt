use Rattle.std.proofs.Common.{◌≡◌, ◌+◌, ◌≤◌, ℕ, length}
use Rattle.km_names.specs.Lines.{lines_of, joined_lines, onto_line}
use Rattle.km_names.proofs.lines.first_joined.Given as goal

abbrev pub invariant-loop-rest : goal.invariant-loop-rest
invariant-loop-rest l =
    ((number : ℕ)
    → joined_lines number (lines_of l.text)
    ≡ onto_line number l.joined (joined_lines (number + l.count) (lines_of l.rest)))
    × (l.count + length l.rest ≤ length l.text)

abbrev pub decreases-loop-rest : goal.decreases-loop-rest
decreases-loop-rest l = length l.rest
