use Rattle.std.proofs.Common.{◌≡◌, [], length, ap, sym, ◌∙◌, subst}
use Rattle.std.specs.Prelude.{slice_index_or, false}
use Rattle.relation_order.specs.Sets.{goes, marked, below}
use Rattle.relation_order.specs.Cycle.{cycle}
use Rattle.relation_order.specs.Answer.{IsAnswer}
use Rattle.relation_order.proofs.Placing.{Rising, rising-filter, rising-range}
use Rattle.plan_order.specs.Lists.{items_of}
use Rattle.plan_order.proofs.Known.{marks-own, cycle-own, plan-own, closes-own}
use Rattle.plan_order.proofs.plan.plan_or_cycle.Goals as goal

pub plan_without_cycle-requires-clause-cycle : goal.plan_without_cycle-requires-clause-cycle
plan_without_cycle-requires-clause-cycle c =
    let p = c.args.planned.now in
    let set = marked c.args.free.now in
    let requests = items_of c.args.requests.now in
    let w = c.requires.known in
    let answer
    = subst (IsAnswer (goes p.before) (marked c.deref.result.now)) c.in-Order.is
    c.in_ok-order_or_cycle.ensures in
    ap (cycle (goes p.before))
    (sym (marks-own (length c.args.free.now) w.0 set w.1.0 requests p w.1.1))
    ∙ ap (λ bs. cycle (goes p.before) (marked bs)) (sym c.deref.ensures.value)
    ∙ answer.0

pub returns-in-Order : goal.returns-in-Order
returns-in-Order c before after k =
    let p = c.args.planned.now in
    let set = marked c.args.free.now in
    let requests = items_of c.args.requests.now in
    let answer
    = subst (IsAnswer (goes p.before) (marked c.deref.result.now)) c.in-Order.is
    c.in_ok-order_or_cycle.ensures in
    let none : cycle (goes c.args.planned.now.before) (marked c.args.planned.now.marks.items) ≡ []
    =
    ap (λ bs. cycle (goes c.args.planned.now.before) (marked bs)) (sym c.deref.ensures.value)
    ∙ answer.0 in (
      cycle-own (length c.args.free.now) before set after requests p k ∙ none,
      plan-own (length c.args.free.now) before set after requests p k
          c.in_ok-plan-in-Order.plan none c.in_ok-plan-in-Order.ensures,
    )

pub returns : goal.returns
returns c before after k =
    let p = c.args.planned.now in
    let set = marked c.args.free.now in
    let requests = items_of c.args.requests.now in
    let answer
    = subst (IsAnswer (goes p.before) (marked c.deref.result.now)) c.in-Cycle.is
    c.in_ok-order_or_cycle.ensures in
    let is : c.in-Cycle.found.items
    ≡ cycle (goes c.args.planned.now.before) (marked c.args.planned.now.marks.items)
    =
    answer.0
    ∙ ap (λ bs. cycle (goes c.args.planned.now.before) (marked bs)) c.deref.ensures.value in
    let up : Rising (marked c.args.planned.now.marks.items)
    = rising-filter (λ y. slice_index_or c.args.planned.now.marks.items y false)
    (below (length c.args.planned.now.marks.items))
    (rising-range 0 (length c.args.planned.now.marks.items)) in (
      is ∙ sym (cycle-own (length c.args.free.now) before set after requests p k),
      closes-own (length c.args.free.now) before set after requests p k c.in-Cycle.found.items up is
          answer.1,
    )
