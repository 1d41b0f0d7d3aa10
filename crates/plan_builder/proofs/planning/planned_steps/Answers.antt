use Rattle.std.proofs.Common.{◌≡◌, length, None, ap, sym, ◌∙◌, subst}
use Rattle.std.specs.List.{find}
use Rattle.std.specs.Option.{option_map}
use Rattle.std.proofs.lemmas.Result.{err_from_is_err_and}
use Rattle.km_names.specs.First.{first}
use Rattle.relation_order.proofs.SpreadLaws.{spread-within}
use Rattle.relation_order.proofs.PlaceSteps.{all-within}
use Rattle.plan_order.specs.Plan.{needs, requested}
use Rattle.plan_order.specs.Lists.{among}
use Rattle.plan_order.specs.Answer.{IsPlan}
use Rattle.dependency_lines.proofs.Faults.{right}
use Rattle.plan_sources.specs.Sources.{modules}
use Rattle.planned_modules.specs.Needs.{before, after, unloaded}
use Rattle.planned_modules.specs.Members.{is_unfound, asked, is_unknown, all_names}
use Rattle.plan_builder.specs.Requested.{found_for}
use Rattle.plan_builder.specs.Obstacles.{as_obstacle, not_found, plan_tests}
use Rattle.plan_sources.specs.Planner.{sources_of}
use Rattle.plan_builder.specs.Answers.{name_obstacle}
use Rattle.plan_builder.proofs.Answering.{unloaded-low}
use Rattle.plan_builder.proofs.Obstacles.{name-fault, when-unfound, when-unknown, when-known}
use Rattle.plan_builder.proofs.Obstacles.{steps-are}
use Rattle.plan_builder.proofs.StepLaws.{ends-rising}
use Rattle.plan_builder.specs.Closed.{IsClosedPlan}
use Rattle.plan_builder.proofs.ClosedLemmas.{plans-are-closed}
use Rattle.plan_builder.proofs.planning.planned_steps.Goals as goal

pub returns-in_err-founds-clause-err : goal.returns-in_err-founds-clause-err
returns-in_err-founds-clause-err c =
    let s = sources_of c.args.planner.now in
    let request = c.args.request.now in
    let p = err_from_is_err_and c.from_residual.result c.from_residual.ensures.1 in
    let fault = c.in_err-founds.field-0.0 in
    rw (p.1, p.2)
    (right (λ e. when-unfound s request c.requires (name_obstacle fault) e)
    (name-fault fault (find (is_unfound s) request.names) c.in_err-founds.ensures.err))

pub returns-in_err-check_known-clause-err : goal.returns-in_err-check_known-clause-err
returns-in_err-check_known-clause-err c =
    let s = sources_of c.args.planner.now in
    let request = c.args.request.now in
    let are : c.deref.result.now ≡ found_for (sources_of c.args.planner.now) c.args.request.now =
    c.deref.ensures.value ∙ c.in_ok-founds.ensures.found in
    let p
    = err_from_is_err_and c.from_residual-in_err-check_known.result
    c.from_residual-in_err-check_known.ensures.1 in
    let fault = c.in_err-check_known.field-0.0 in
    rw (p.1, p.2)
    (right (λ e. when-unknown s request c.requires c.in_ok-founds.ensures.passed
    (name_obstacle fault)
    (ap (λ fs. option_map as_obstacle
    (option_map not_found
    (find (is_unknown s request.ignore_install) (all_names fs)))) (sym are)
    ∙ e))
    (name-fault fault (find (is_unknown s request.ignore_install) (all_names c.deref.result.now))
    c.in_err-check_known.ensures.err))

pub returns-in_err-plan-clause-err : goal.returns-in_err-plan-clause-err
returns-in_err-plan-clause-err c =
    let s = sources_of c.args.planner.now in
    let request = c.args.request.now in
    let known : find (is_unknown (sources_of c.args.planner.now) c.args.request.now.ignore_install)
    (all_names (found_for (sources_of c.args.planner.now) c.args.request.now))
    ≡ None
    =
    ap (λ fs. find (is_unknown s request.ignore_install) (all_names fs))
    (sym (c.deref.ensures.value ∙ c.in_ok-founds.ensures.found))
    ∙ c.in_ok-check_known.ensures.passed in
    let p
    = err_from_is_err_and c.from_residual-in_err-plan.result
    c.from_residual-in_err-plan.ensures.1 in
    rw (p.1, p.2)
    (right (λ e. ap (option_map as_obstacle) (when-known s request c.requires
    c.in_ok-founds.ensures.passed known (first (plan_tests s c.deref-2.result.now))
    (ap (λ fs. first (plan_tests s fs))
    (sym (c.deref-2.ensures.value ∙ c.in_ok-founds.ensures.found))))
    ∙ e) c.in_err-plan.ensures.err)

pub all_steps-requires-clause-ends : goal.all_steps-requires-clause-ends
all_steps-requires-clause-ends c =
    let s = sources_of c.args.planner.now in
    let is = c.in_ok-plan.ensures.plan in
    ends-rising (among (before s)) (unloaded s) (after s) (asked s c.deref-2.result.now)
    c.in_ok-plan.plan.ends.items c.in_ok-plan.plan.order.items is.ends_long is.order is.ends

pub all_steps-requires-clause-order : goal.all_steps-requires-clause-order
all_steps-requires-clause-order c =
    let s = sources_of c.args.planner.now in
    let is = c.in_ok-plan.ensures.plan in
    all-within (length (modules s)) c.in_ok-plan.plan.order.items
    (λ y h. unloaded-low s y
    (spread-within (needs (among (before s)) (after s)) (unloaded s)
    (requested (asked s c.deref-2.result.now)) y (sym (is.members y) ∙ h)))

pub returns-clause-plan : goal.returns-clause-plan
returns-clause-plan c =
    let s = sources_of c.args.planner.now in
    c.in_ok-steps.ensures
    ∙ steps-are s c.args.request.now c.deref-3.result.now c.in_ok-plan.plan
    (c.deref-3.ensures.value ∙ c.in_ok-founds.ensures.found)
    (subst (λ fs. IsPlan (among (before s)) (unloaded s) (after s) (asked s fs) c.in_ok-plan.plan)
    (c.deref-2.ensures.value ∙ sym c.deref-3.ensures.value) c.in_ok-plan.ensures.plan)

pub returns-clause-passed : goal.returns-clause-passed
returns-clause-passed c =
    let s = sources_of c.args.planner.now in
    let request = c.args.request.now in
    let known : find (is_unknown (sources_of c.args.planner.now) c.args.request.now.ignore_install)
    (all_names (found_for (sources_of c.args.planner.now) c.args.request.now))
    ≡ None
    =
    ap (λ fs. find (is_unknown s request.ignore_install) (all_names fs))
    (sym (c.deref.ensures.value ∙ c.in_ok-founds.ensures.found))
    ∙ c.in_ok-check_known.ensures.passed in
    when-known s request c.requires c.in_ok-founds.ensures.passed known None
    (ap (λ fs. first (plan_tests s fs))
    (sym (c.deref-2.ensures.value ∙ c.in_ok-founds.ensures.found))
    ∙ c.in_ok-plan.ensures.passed)

pub returns-clause-closed : goal.returns-clause-closed
returns-clause-closed c =
    let s = sources_of c.args.planner.now in
    subst (IsClosedPlan s) (sym (returns-clause-plan c))
    (plans-are-closed s c.args.request.now (returns-clause-passed c))
