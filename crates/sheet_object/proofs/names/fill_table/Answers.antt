use Rattle.std.proofs.Common.{arith}
use Rattle.sheet_object.proofs.DistinctLemmas.{table-more}
use Rattle.sheet_object.proofs.names.fill_table.Goals as goal

pub loop-item-preserved : goal.loop-item-preserved
loop-item-preserved g c = record {
  count = omega (arith, c.in_ok-push.ensures.count, c.loop-item.invariant.count);
  is
      = table-more g.T.Named.name c.args.items.now c.loop-item.item-index c.item-item.result
      c.loop-item-test.true c.item-item.is
      c.push.new.self c.name.result.now c.name.ensures
      (c.in_ok-push.ensures.ok _ c.loop-item.invariant.is);
}
