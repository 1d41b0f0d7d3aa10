use Rattle.std.proofs.Common.{arith, drop, map, ◌+◌}
use Rattle.index_format.specs.declared.numbers.TheConstants.{FIRST_PLACE}
use Rattle.index_write.specs.Parts.{part_size}
use Rattle.index_write.specs.Groups.{part_of}
use Rattle.index_write.proofs.SizeLemmas.{size_next, drop-item}
use Rattle.index_write.proofs.size.file_size.Goals as goal

pub loop-node-preserved : goal.loop-node-preserved
loop-node-preserved c =
    size_next part_size c.loop-node.total c.saturating_add-total.result FIRST_PLACE
    (part_of c.node-item.result) (drop c.loop-node.node-index (map part_of c.args.nodes.now))
    (drop (c.loop-node.node-index + 1) (map part_of c.args.nodes.now))
    (map part_of c.args.nodes.now)
    (drop-item part_of c.args.nodes.now c.loop-node.node-index c.node-item.result
    c.loop-node-test.true c.node-item.is)
    (omega (arith, c.node_size.ensures, c.saturating_add-total.ensures))
    c.loop-node.invariant
