use Rattle.std.proofs.Common.{drop, ◌+◌}
use Rattle.index_write.specs.Lists.{value_of, shown_values}
use Rattle.index_write.proofs.SizeLemmas.{drop-item}
use Rattle.index_write.proofs.WriteLemmas.{values-next}
use Rattle.index_write.proofs.bytes.push_values.Goals as goal

pub loop-value-preserved : goal.loop-value-preserved
loop-value-preserved c =
    values-next (drop c.loop-value.value-index (shown_values c.args.values.now))
    (drop (c.loop-value.value-index + 1) (shown_values c.args.values.now))
    (value_of c.value-item.result) c.loop-value.out.items c.push_value.new.out.items _
    (drop-item value_of c.args.values.now c.loop-value.value-index c.value-item.result
    c.loop-value-test.true c.value-item.is)
    c.loop-value.invariant
    c.in_ok-push_value.ensures
