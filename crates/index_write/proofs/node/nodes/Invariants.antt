use Rattle.std.proofs.Common.{length, map, reverse}
use Rattle.index_format.specs.Tree.{longest}
use Rattle.index_write.specs.Parts.{parts_of}
use Rattle.index_write.specs.Groups.{entries_shown, groups_of, part_of}
use Rattle.index_write.proofs.NodeLemmas.{NodesSoFar, nodes_of}
use Rattle.index_write.proofs.node.nodes.Given as goal

abbrev pub invariant-loop-group : goal.invariant-loop-group
invariant-loop-group l =
    NodesSoFar (entries_shown l.entries) (groups_of l.pending.items)
    (reverse (map part_of l.nodes.items))

abbrev pub decreases-loop-group : goal.decreases-loop-group
decreases-loop-group l =
    length (parts_of (nodes_of (longest (entries_shown l.entries)) (groups_of l.pending.items)))
