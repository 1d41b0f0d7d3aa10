use Rattle.std.proofs.Common.{◌≡◌, drop, map}
use Rattle.index_write.specs.Parts.{with_parts, headed}
use Rattle.index_write.specs.Groups.{part_of}
use Rattle.index_write.specs.Links.{state}
use Rattle.index_write.proofs.bytes.write.Given as goal

abbrev pub invariant-loop-node : goal.invariant-loop-node
invariant-loop-node l =
    with_parts (drop l.node-index (map part_of l.nodes)) (state l.out.items l.links.items)
    ≡ with_parts (map part_of l.nodes) headed
