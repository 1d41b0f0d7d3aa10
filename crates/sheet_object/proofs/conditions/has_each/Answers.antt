use Rattle.sheet_object.proofs.DistinctLemmas.{known-more, known-not}
use Rattle.sheet_object.proofs.conditions.has_each.Goals as goal

pub returns-then-is_none : goal.returns-then-is_none
returns-then-is_none g c = λ others table.
    known-not g.T.Named.name c.args.items.now c.loop-item.item-index c.item-item.result
    c.loop-item-test.true c.item-item.is
    c.args.table.now c.name.result.now c.place.result c.is_none.result c.name.ensures
    c.place.ensures c.is_none.ensures others table c.if-is_none.true

pub loop-item-preserved : goal.loop-item-preserved
loop-item-preserved g c = λ others table.
    known-more g.T.Named.name c.args.items.now c.loop-item.item-index c.item-item.result
    c.loop-item-test.true c.item-item.is
    c.args.table.now c.name.result.now c.place.result c.is_none.result c.name.ensures
    c.place.ensures c.is_none.ensures others table c.if-is_none.false
    (c.loop-item.invariant others table)
