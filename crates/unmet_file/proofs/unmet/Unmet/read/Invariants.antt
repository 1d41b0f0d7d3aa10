use Rattle.std.proofs.Common.{◌≡◌, ◌≤◌, ◌+◌, ◌++◌, length}
use Rattle.std.specs.List.{filter_map}
use Rattle.km_names.specs.Lines.{lines_of}
use Rattle.unmet_file.specs.Line.{unmet_line}
use Rattle.unmet_file.specs.Unmet.{bad_line, stated_lines}
use Rattle.unmet_file.proofs.LineSteps.{place_at}
use Rattle.unmet_file.proofs.unmet.Unmet.read.Given as goal

abbrev pub invariant-loop-rest : goal.invariant-loop-rest
invariant-loop-rest l = record {
  lines : l.lines ++ filter_map unmet_line (lines_of l.rest) ≡ stated_lines l.bytes;
  place : place_at l.file l.number (lines_of l.rest) ≡ bad_line l.file l.bytes;
  number : l.number + length l.rest ≤ length l.bytes + 1;
}

abbrev pub decreases-loop-rest : goal.decreases-loop-rest
decreases-loop-rest l = length l.rest
