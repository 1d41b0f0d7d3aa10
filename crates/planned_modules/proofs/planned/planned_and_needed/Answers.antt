use Rattle.std.proofs.Common.{length, sym, subst, ◌∙◌}
use Rattle.std.specs.Prelude.{IfOk}
use Rattle.relation_order.specs.Sets.{marked}
use Rattle.plan_order.specs.Lists.{items_of, IsPlanned}
use Rattle.plan_sources.specs.Sources.{modules}
use Rattle.plan_sources.specs.Planner.{sources_of}
use Rattle.planned_modules.specs.Kept.{before_once, after_once}
use Rattle.planned_modules.proofs.planned.planned_and_needed.Goals as goal

pub returns : goal.returns
returns c =
    let s = sources_of c.args.planner.now in
    let set = marked c.args.free.now in
    let asks = items_of c.args.requests.now in
    subst (λ n. IfOk c.find_planned.result (IsPlanned n (before_once s) set (after_once s) asks))
    (sym c.requires.free)
    (subst (λ h. IfOk c.find_planned.result
    (IsPlanned (length (modules (sources_of h))) (before_once (sources_of h)) set
    (after_once (sources_of h)) asks)) (c.new-needs.ensures ∙ c.in_ok-soft.ensures)
    c.find_planned.ensures.planned)
