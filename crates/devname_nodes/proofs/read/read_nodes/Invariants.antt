use Rattle.std.proofs.Common.{◌≡◌, ◌≤◌, ◌+◌, ◌++◌, length}
use Rattle.std.specs.List.{filter_map}
use Rattle.km_names.specs.Lines.{lines_of}
use Rattle.devname_nodes.specs.Line.{line_node}
use Rattle.devname_nodes.specs.File.{bad_line, stated_nodes}
use Rattle.devname_nodes.proofs.LineSteps.{place_at}
use Rattle.devname_nodes.proofs.read.read_nodes.Given as goal

abbrev pub invariant-loop-rest : goal.invariant-loop-rest
invariant-loop-rest l = record {
  nodes : l.nodes ++ filter_map line_node (lines_of l.rest) ≡ stated_nodes l.bytes;
  place : place_at l.file l.number (lines_of l.rest) ≡ bad_line l.file l.bytes;
  number : l.number + length l.rest ≤ length l.bytes + 1;
}

abbrev pub decreases-loop-rest : goal.decreases-loop-rest
decreases-loop-rest l = length l.rest
