use Rattle.std.proofs.Common.{sym, ap, subst, ◌∙◌}
use Rattle.relation_order.specs.Sets.{marked}
use Rattle.relation_order.specs.Search.{Inside}
use Rattle.plan_order.specs.Plan.{planned}
use Rattle.plan_order.specs.Lists.{among, items_of}
use Rattle.plan_order.specs.Answer.{IsAnswer}
use Rattle.planned_modules.specs.Needs.{before, after}
use Rattle.plan_sources.specs.Planner.{sources_of}
use Rattle.planned_modules.specs.Kept.{before_once, after_once}
use Rattle.planned_modules.proofs.Repeats.{among-once, planned-once, answer-once}
use Rattle.planned_modules.proofs.planned.planned_among.Goals as goal

pub plan_or_cycle-requires-clause-known : goal.plan_or_cycle-requires-clause-known
plan_or_cycle-requires-clause-known c =
    let s = sources_of c.args.planner.now in
    (before_once s, (after_once s, c.in_ok-planned.ensures))

pub plan_or_cycle-requires-clause-requests : goal.plan_or_cycle-requires-clause-requests
plan_or_cycle-requires-clause-requests c =
    subst (λ n. Inside n c.args.requests.now) (sym c.requires.free) c.requires.requests

pub returns-clause-marks : goal.returns-clause-marks
returns-clause-marks c =
    let s = sources_of c.args.planner.now in
    let set = marked c.args.free.now in
    let asks = items_of c.args.requests.now in
    c.in_ok-planned.ensures.marks
    ∙ ap (λ r. planned r set (after_once s) asks) (among-once s)
    ∙ planned-once (among (before s)) set (after s) asks

pub returns-clause-long : goal.returns-clause-long
returns-clause-long c = c.in_ok-planned.ensures.marks_long ∙ c.requires.free

pub returns-clause-answer : goal.returns-clause-answer
returns-clause-answer c =
    let s = sources_of c.args.planner.now in
    let set = marked c.args.free.now in
    let asks = items_of c.args.requests.now in
    let a = c.in_ok-answer.answer in
    answer-once (among (before s)) set (after s) asks a
    (subst (λ r. IsAnswer r set (after_once s) asks a) (among-once s)
    (c.in_ok-answer.ensures (before_once s) (after_once s) c.in_ok-planned.ensures))
