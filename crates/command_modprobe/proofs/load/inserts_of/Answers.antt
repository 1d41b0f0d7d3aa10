use Rattle.std.proofs.Common.{◌≡◌, ◌+◌, ◌≤◌, List, ◌∷◌, length, drop, sym, ap, subst, ◌∙◌}
use Rattle.std.specs.Prelude.{Err}
use Rattle.std.proofs.lemmas.Result.{err_from_is_err_and}
use Rattle.plan_builder.specs.declared.step.PlanStep.{PlanStep}
use Rattle.km_course.specs.Follows.{Answers}
use Rattle.km_course.proofs.Following.{next-item}
use Rattle.stages_loads.specs.declared.load.Insertion.{Insertion}
use Rattle.command_modprobe.specs.Loaded.{inserts_outcome}
use Rattle.command_modprobe.proofs.LoadSteps.{command-stops, inserts-given}
use Rattle.command_modprobe.proofs.load.inserts_of.Goals as goal

pub returns-in_err-push_insert : goal.returns-in_err-push_insert
returns-in_err-push_insert c =
    let p = err_from_is_err_and c.from_residual.result c.from_residual.ensures.1 in
    let steps = c.args.steps.now in
    let i = c.loop-step.step-index in
    let step = c.step-item.result in
    let cut : drop i steps ≡ step ∷ drop (i + 1) steps =
    subst (λ (all : List PlanStep). drop i all ≡ step ∷ drop (i + 1) all)
    c.as_slice-step-items.ensures
    (next-item c.as_slice-step-items.result.now i step c.loop-step-test.true c.step-item.is) in
    subst (λ r. Answers (λ (x : List Insertion). x) (inserts_outcome steps) r)
    (sym (p.1 ∙ ap Err p.2))
    (command-stops steps i step c.in_err-push_insert.field-0.0 cut c.loop-step.invariant.command
    c.in_err-push_insert.ensures.err)

pub returns : goal.returns
returns c =
    inserts-given c.args.steps.now c.loop-step.step-index c.loop-step.inserts
    (subst (λ (all : List PlanStep). length all ≤ c.loop-step.step-index)
    c.as_slice-step-items.ensures c.loop-step-test.false)
    c.loop-step.invariant.command c.loop-step.invariant.inserts
