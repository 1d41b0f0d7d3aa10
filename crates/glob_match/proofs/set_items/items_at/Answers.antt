use Rattle.std.proofs.Common.{arith}
use Rattle.glob_match.proofs.RunLemmas.{byte_before, range_before}
use Rattle.glob_match.proofs.set_items.items_at.Goals as goal

pub returns-then-is_item-2-clause-items : goal.returns-then-is_item-2-clause-items
returns-then-is_item-2-clause-items c =
    let e = c.after.ensures in
    range_before c.args.bytes.now c.args.at c.args.third.now c.requires.third c.after.result e.start
    e.end e.words c.requires.third_start c.requires.within c.if-middle-eq45.true
    (c.is_item.ensures c.if-is_item.true) (c.is_item-then-is_item.ensures c.if-is_item-2.true)
    e.listed

pub returns-then-is_item-3-clause-items : goal.returns-then-is_item-3-clause-items
returns-then-is_item-3-clause-items c =
    let e = c.after-then-is_item-3.ensures in
    byte_before c.args.bytes.now c.args.at c.args.next.now c.requires.next
    c.after-then-is_item-3.result e.start e.end e.words c.requires.next_start
    (omega (arith, c.requires.within)) c.if-middle-eq45.false
    (c.is_item-else-middle-eq45.ensures c.if-is_item-3.true) e.listed
