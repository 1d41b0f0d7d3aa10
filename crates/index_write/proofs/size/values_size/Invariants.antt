use Rattle.std.proofs.Common.{drop}
use Rattle.index_write.proofs.SizeLemmas.{SizeSoFar}
use Rattle.index_write.specs.Parts.{value_size}
use Rattle.index_write.specs.Lists.{shown_values}
use Rattle.index_write.proofs.size.values_size.Given as goal

abbrev pub invariant-loop-value : goal.invariant-loop-value
invariant-loop-value l =
    SizeSoFar value_size l.total (drop l.value-index (shown_values l.values)) 4
    (shown_values l.values)
