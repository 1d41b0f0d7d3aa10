use Rattle.std.proofs.Common.{length, arith, ap, ◌∙◌}
use Rattle.std.specs.Prelude.{filter, slice_index_or, false}
use Rattle.relation_order.specs.Search.{with_items}
use Rattle.plan_order.proofs.Planning.{asked-more}
use Rattle.plan_order.proofs.needs.find_requested.Goals as goal

pub loop-request-preserved : goal.loop-request-preserved
loop-request-preserved c =
    let o = c.loop-request in
    asked-more (length c.args.free.now) c.args.free.now c.args.requests.now o.request-index
    c.request-item.result o.found.items c.find_all.new.found.items o.marks.items
    c.find_all.new.seen.items o.invariant (omega arith) c.request-item.is
    (c.in_ok-find_all.ensures.found o.invariant.marks
    ∙ ap (λ xs. with_items o.found.items
    (filter (λ y. slice_index_or c.args.free.now y false) xs)) c.deref.ensures.value)
    (c.in_ok-find_all.ensures.marks o.invariant.marks) c.in_ok-find_all.ensures.long
