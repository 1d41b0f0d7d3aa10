use Rattle.std.proofs.Common.{List}
use Rattle.std.specs.Prelude.{Ok, Err}
use Rattle.std.proofs.lemmas.Result.{err_from_is_err_and}
use Rattle.plan_builder.specs.declared.step.PlanStep.{PlanStep}
use Rattle.km_course.proofs.Steps.{next, exits, answered}
use Rattle.command_modprobe.specs.Planned.{loaded_in, plan_outcome}
use Rattle.command_modprobe.proofs.PlanSteps.{after_plan}
use Rattle.command_modprobe.proofs.plan.print_plan.Goals as goal

pub returns-in_err-steps : goal.returns-in_err-steps
returns-in_err-steps g c = λ files err.
    let p = err_from_is_err_and c.from_residual.result c.from_residual.ensures.1 in
    let basis = c.args.basis.now in
    exits _ _ (after_plan basis.folder) p.1 p.2
    (answered (λ (x : List PlanStep). x)
    (plan_outcome basis.known (loaded_in c.args.mode basis.known.loaded) basis.request) _
    (Err _) c.in_err-steps.ensures)

pub returns : goal.returns
returns g c = λ files err.
    let basis = c.args.basis.now in
    next (after_plan basis.folder)
    (answered (λ (x : List PlanStep). x)
    (plan_outcome basis.known (loaded_in c.args.mode basis.known.loaded) basis.request) _
    (Ok c.in_ok-steps.steps) c.in_ok-steps.ensures)
    (c.say_plan.ensures files err)
