use Rattle.std.proofs.Common.{◌≡◌, ap, subst, ◌∙◌}
use Rattle.std.specs.Prelude.{IfOk}
use Rattle.relation_order.specs.Sets.{marked}
use Rattle.plan_order.specs.Plan.{planned}
use Rattle.plan_order.specs.Lists.{among, items_of}
use Rattle.plan_order.specs.Answer.{IsAnswer}
use Rattle.planned_modules.specs.Needs.{before, after, unloaded}
use Rattle.plan_sources.specs.Planner.{sources_of}
use Rattle.planned_modules.proofs.planned.planned_answer.Goals as goal

pub returns-clause-marks : goal.returns-clause-marks
returns-clause-marks c =
    let s = sources_of c.args.planner.now in
    let set = ap marked c.deref.ensures.value ∙ c.in_ok-free.ensures.marks in
    let asks = ap items_of c.deref-2.ensures.value ∙ c.in_ok-requests.ensures.items in
    subst (λ ys. IfOk c.planned_among.result
    (λ p. marked p.marks.items ≡ planned (among (before s)) (unloaded s) (after s) ys)) asks
    (subst (λ xs. IfOk c.planned_among.result
    (λ p. marked p.marks.items
    ≡ planned (among (before s)) xs (after s) (items_of c.deref-2.result.now))) set
    c.planned_among.ensures.marks)

pub returns-clause-answer : goal.returns-clause-answer
returns-clause-answer c =
    let s = sources_of c.args.planner.now in
    let set = ap marked c.deref.ensures.value ∙ c.in_ok-free.ensures.marks in
    let asks = ap items_of c.deref-2.ensures.value ∙ c.in_ok-requests.ensures.items in
    subst (λ ys. IfOk c.planned_among.result
    (λ p. IsAnswer (among (before s)) (unloaded s) (after s) ys p.answer)) asks
    (subst (λ xs. IfOk c.planned_among.result
    (λ p. IsAnswer (among (before s)) xs (after s) (items_of c.deref-2.result.now)
    p.answer)) set c.planned_among.ensures.answer)
