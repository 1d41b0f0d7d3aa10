use Rattle.std.proofs.Common.{List}
use Rattle.std.specs.Prelude.{Ok, Err}
use Rattle.std.proofs.lemmas.Result.{err_from_is_err_and}
use Rattle.plan_builder.specs.declared.step.PlanStep.{PlanStep}
use Rattle.km_course.proofs.Steps.{next, exits, answered}
use Rattle.stages_loads.specs.declared.load.Insertion.{Insertion}
use Rattle.command_modprobe.specs.Loaded.{inserts_outcome}
use Rattle.command_modprobe.specs.Planned.{plan_outcome}
use Rattle.command_modprobe.proofs.LoadSteps.{after_inserts, after_steps}
use Rattle.command_modprobe.proofs.load.load_request.Goals as goal

pub returns-in_err-steps : goal.returns-in_err-steps
returns-in_err-steps g c = λ err.
    let p = err_from_is_err_and c.from_residual.result c.from_residual.ensures.1 in
    exits _ _ (after_steps c.args.basis.now.folder c.args.images.now c.args.basis.now.known
    c.args.machine) p.1 p.2
    (answered (λ (x : List PlanStep). x)
    (plan_outcome c.args.basis.now.known c.args.basis.now.known.loaded
    c.args.basis.now.request) _ (Err _) c.in_err-steps.ensures)

pub returns-in_err-inserts : goal.returns-in_err-inserts
returns-in_err-inserts g c = λ err.
    let p
    = err_from_is_err_and c.from_residual-in_err-inserts.result
    c.from_residual-in_err-inserts.ensures.1 in
    let steps = c.in_ok-steps.steps in
    next (after_steps c.args.basis.now.folder c.args.images.now c.args.basis.now.known
    c.args.machine)
    (answered (λ (x : List PlanStep). x)
    (plan_outcome c.args.basis.now.known c.args.basis.now.known.loaded
    c.args.basis.now.request) _ (Ok steps) c.in_ok-steps.ensures)
    (exits _ _ (after_inserts c.args.basis.now.folder c.args.images.now c.args.basis.now.known
    c.args.machine steps) p.1 p.2
    (answered (λ (x : List Insertion). x) (inserts_outcome steps) _ (Err _)
    c.in_err-inserts.ensures))

pub returns : goal.returns
returns g c = λ err.
    let steps = c.in_ok-steps.steps in
    next (after_steps c.args.basis.now.folder c.args.images.now c.args.basis.now.known
    c.args.machine)
    (answered (λ (x : List PlanStep). x)
    (plan_outcome c.args.basis.now.known c.args.basis.now.known.loaded
    c.args.basis.now.request) _ (Ok steps) c.in_ok-steps.ensures)
    (next (after_inserts c.args.basis.now.folder c.args.images.now c.args.basis.now.known
    c.args.machine steps)
    (answered (λ (x : List Insertion). x) (inserts_outcome steps) _ (Ok c.in_ok-inserts.inserts)
    c.in_ok-inserts.ensures)
    (c.load_steps.ensures err))
