use Rattle.std.proofs.Common.{arith}
use Rattle.sheet_object.proofs.DistinctLemmas.{seen-once, seen-twice, table-more}
use Rattle.sheet_object.proofs.conditions.are_new.Goals as goal

pub returns-then-is_some : goal.returns-then-is_some
returns-then-is_some g c =
    seen-twice g.T.Named.name c.args.items.now c.loop-item.item-index c.item-item.result
    c.loop-item-test.true c.item-item.is
    c.loop-item.seen c.name-name.result.now c.place.result c.is_some.result c.name-name.ensures
    c.place.ensures c.is_some.ensures c.loop-item.invariant.is c.if-is_some.true

pub loop-item-preserved : goal.loop-item-preserved
loop-item-preserved g c = record {
  count = omega (arith, c.in_ok-push.ensures.count, c.loop-item.invariant.count);
  is
      = table-more g.T.Named.name c.args.items.now c.loop-item.item-index c.item-item.result
      c.loop-item-test.true c.item-item.is
      c.push.new.self c.name-name.result.now c.name-name.ensures
      (c.in_ok-push.ensures.ok _ c.loop-item.invariant.is);
  distinct
      = seen-once g.T.Named.name c.args.items.now c.loop-item.item-index c.item-item.result
      c.loop-item-test.true c.item-item.is
      c.loop-item.seen c.name-name.result.now c.place.result c.is_some.result c.name-name.ensures
      c.place.ensures c.is_some.ensures c.loop-item.invariant.is c.if-is_some.false
      c.loop-item.invariant.distinct;
}
