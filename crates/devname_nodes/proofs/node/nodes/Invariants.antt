use Rattle.std.proofs.Common.{◌≡◌, take}
use Rattle.std.specs.List.{filter_map}
use Rattle.devname_nodes.specs.Nodes.{node_of}
use Rattle.devname_nodes.proofs.node.nodes.Given as goal

abbrev pub invariant-loop-facts : goal.invariant-loop-facts
invariant-loop-facts l = l.list ≡ filter_map node_of (take l.facts-index l.tree)
