use Rattle.std.proofs.Common.{◌≡◌, ◌≤◌, ◌+◌, ◌++◌, length}
use Rattle.std.specs.List.{filter_map}
use Rattle.km_names.specs.Lines.{lines_of}
use Rattle.kernel_exports.specs.TableLines.{refused_line, stated}
use Rattle.kernel_exports.proofs.LineSteps.{refused_from}
use Rattle.kernel_exports.proofs.lines.read_lines.Given as goal

abbrev pub invariant-loop-rest : goal.invariant-loop-rest
invariant-loop-rest g l = record {
  lines : l.lines.items ++ filter_map g.L.TableLine.read (lines_of l.rest)
      ≡ stated g.L.TableLine.read l.bytes;
  refused : refused_from g.L.TableLine.read l.number (lines_of l.rest)
      ≡ refused_line g.L.TableLine.read l.bytes;
  room : length l.lines.items + length l.rest ≤ length l.bytes;
  number : l.number + length l.rest ≤ length l.bytes + 1;
}

abbrev pub decreases-loop-rest : goal.decreases-loop-rest
decreases-loop-rest g l = length l.rest
