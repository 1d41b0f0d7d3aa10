use Rattle.std.proofs.Common.{◌≡◌, ◌++◌, drop}
use Rattle.devname_nodes.specs.File.{node_lines}
use Rattle.devname_nodes.proofs.text.push_lines.Given as goal

abbrev pub invariant-loop-node : goal.invariant-loop-node
invariant-loop-node l =
    l.text ++ node_lines (drop l.node-index l.nodes) ≡ l.fn.text ++ node_lines l.nodes
