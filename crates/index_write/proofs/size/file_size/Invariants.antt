use Rattle.std.proofs.Common.{drop, map}
use Rattle.index_format.specs.declared.numbers.TheConstants.{FIRST_PLACE}
use Rattle.index_write.proofs.SizeLemmas.{SizeSoFar}
use Rattle.index_write.specs.Parts.{part_size}
use Rattle.index_write.specs.Groups.{part_of}
use Rattle.index_write.proofs.size.file_size.Given as goal

abbrev pub invariant-loop-node : goal.invariant-loop-node
invariant-loop-node l =
    SizeSoFar part_size l.total (drop l.node-index (map part_of l.nodes)) FIRST_PLACE
    (map part_of l.nodes)
