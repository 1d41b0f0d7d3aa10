use Rattle.std.proofs.Common.{arith, drop, ◌+◌}
use Rattle.index_write.specs.Lists.{value_of, shown_values}
use Rattle.index_write.specs.Parts.{value_size}
use Rattle.index_write.proofs.SizeLemmas.{size_next, drop-item}
use Rattle.index_write.proofs.size.values_size.Goals as goal

pub loop-value-preserved : goal.loop-value-preserved
loop-value-preserved c =
    size_next value_size c.loop-value.total c.saturating_add-total.result 4
    (value_of c.value-item.result)
    (drop c.loop-value.value-index (shown_values c.args.values.now))
    (drop (c.loop-value.value-index + 1) (shown_values c.args.values.now))
    (shown_values c.args.values.now)
    (drop-item value_of c.args.values.now c.loop-value.value-index c.value-item.result
    c.loop-value-test.true c.value-item.is)
    (omega arith)
    c.loop-value.invariant
