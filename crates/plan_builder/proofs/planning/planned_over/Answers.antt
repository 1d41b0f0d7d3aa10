use Rattle.std.proofs.Common.{◌≡◌, Some, None, ap, ◌∙◌, subst}
use Rattle.std.specs.Prelude.{◌⊎◌, IfOk, OnOk, IfErr, option_map}
use Rattle.dependency_lines.specs.Modules.{bad_name}
use Rattle.plan_builder.specs.declared.obstacle.Obstacle.TheVariants.{Memory}
use Rattle.plan_builder.specs.Steps.{plan_steps}
use Rattle.plan_builder.specs.Obstacles.{as_obstacle, obstacle_of}
use Rattle.plan_sources.specs.Planner.{sources_of}
use Rattle.plan_builder.specs.Sources.{sources}
use Rattle.plan_builder.specs.Closed.{IsClosedPlan}
use Rattle.plan_builder.proofs.planning.planned_over.Goals as goal

pub planned_steps-steps-requires : goal.planned_steps-steps-requires
planned_steps-steps-requires c =
    ap (λ h. bad_name (sources_of h).maps.dep) c.in_ok-planner.ensures ∙ c.requires.sound

pub returns-clause-plan : goal.returns-clause-plan
returns-clause-plan c =
    let request = c.args.request.now in
    let same : sources_of c.in_ok-planner.planner
    ≡ sources c.args.rules.now c.args.indexes.now c.args.unmet.now c.args.loaded.now
    c.args.request.now
    =
    ap sources_of c.in_ok-planner.ensures
    ∙ (λ i. sources c.args.rules.now c.args.indexes.now (c.as_slice.ensures i)
    (c.as_slice-2.ensures i) c.args.request.now) in
    subst (λ s. IfOk c.planned_steps-steps.result (λ steps. steps ≡ plan_steps s request)) same
    c.planned_steps-steps.ensures.plan

pub returns-clause-passed : goal.returns-clause-passed
returns-clause-passed c =
    let request = c.args.request.now in
    let same : sources_of c.in_ok-planner.planner
    ≡ sources c.args.rules.now c.args.indexes.now c.args.unmet.now c.args.loaded.now
    c.args.request.now
    =
    ap sources_of c.in_ok-planner.ensures
    ∙ (λ i. sources c.args.rules.now c.args.indexes.now (c.as_slice.ensures i)
    (c.as_slice-2.ensures i) c.args.request.now) in
    subst (λ s. OnOk c.planned_steps-steps.result (obstacle_of s request ≡ None)) same
    c.planned_steps-steps.ensures.passed

pub returns-clause-closed : goal.returns-clause-closed
returns-clause-closed c =
    let same : sources_of c.in_ok-planner.planner
    ≡ sources c.args.rules.now c.args.indexes.now c.args.unmet.now c.args.loaded.now
    c.args.request.now
    =
    ap sources_of c.in_ok-planner.ensures
    ∙ (λ i. sources c.args.rules.now c.args.indexes.now (c.as_slice.ensures i)
    (c.as_slice-2.ensures i) c.args.request.now) in
    subst (λ s. IfOk c.planned_steps-steps.result (IsClosedPlan s)) same
    c.planned_steps-steps.ensures.closed

pub returns-clause-err : goal.returns-clause-err
returns-clause-err c =
    let request = c.args.request.now in
    let same : sources_of c.in_ok-planner.planner
    ≡ sources c.args.rules.now c.args.indexes.now c.args.unmet.now c.args.loaded.now
    c.args.request.now
    =
    ap sources_of c.in_ok-planner.ensures
    ∙ (λ i. sources c.args.rules.now c.args.indexes.now (c.as_slice.ensures i)
    (c.as_slice-2.ensures i) c.args.request.now) in
    subst (λ s. IfErr c.planned_steps-steps.result
    (λ o. (o ≡ Memory) ⊎ (option_map as_obstacle (obstacle_of s request) ≡ Some o))) same
    c.planned_steps-steps.ensures.err
