use Rattle.std.proofs.Common.{◌∙◌}
use Rattle.std.specs.Prelude.{Ok, Err, ⊤}
use Rattle.std.proofs.lemmas.Result.{err_from_is_err_and}
use Rattle.km_course.specs.Course.{says_any}
use Rattle.km_course.proofs.Steps.{next, exits, wants, answered}
use Rattle.km_course.proofs.Following.{along}
use Rattle.command_remove.specs.Remove.{chosen_outcome}
use Rattle.command_remove.proofs.RemoveSteps.{after_check, after_lines}
use Rattle.command_remove.proofs.course.carry_out.Goals as goal

pub returns-in_err-check_chosen : goal.returns-in_err-check_chosen
returns-in_err-check_chosen g c = λ files err.
    let p = err_from_is_err_and c.from_residual.result c.from_residual.ensures.1 in
    exits _ _ (after_check c.args.dry_run c.args.machine.now c.args.steps.now) p.1 p.2
    (answered (λ (x : ⊤). x) (chosen_outcome c.args.dry_run c.args.steps.now) _ (Err _)
    c.in_err-check_chosen.ensures)

pub returns-in_err-text : goal.returns-in_err-text
returns-in_err-text g c = λ files err.
    let p
    = err_from_is_err_and c.from_residual-in_err-text.result
    c.from_residual-in_err-text.ensures.1 in
    next (after_check c.args.dry_run c.args.machine.now c.args.steps.now)
    (answered (λ (x : ⊤). x) (chosen_outcome c.args.dry_run c.args.steps.now) _ (Ok tt)
    c.in_ok-check_chosen.ensures)
    (wants _ _ _ _ p.1 p.2)

pub returns-in_err-say_any : goal.returns-in_err-say_any
returns-in_err-say_any g c = λ files err.
    let p
    = err_from_is_err_and c.from_residual-in_err-say_any.result
    c.from_residual-in_err-say_any.ensures.1 in
    next (after_check c.args.dry_run c.args.machine.now c.args.steps.now)
    (answered (λ (x : ⊤). x) (chosen_outcome c.args.dry_run c.args.steps.now) _ (Ok tt)
    c.in_ok-check_chosen.ensures)
    (exits _ _ (after_lines c.args.dry_run c.args.machine.now c.args.steps.now) p.1 p.2
    (along says_any _ _ (c.as_bytes.ensures ∙ c.in_ok-text.ensures)
    (c.in_err-say_any.ensures files err)))

pub returns : goal.returns
returns g c = λ files err.
    next (after_check c.args.dry_run c.args.machine.now c.args.steps.now)
    (answered (λ (x : ⊤). x) (chosen_outcome c.args.dry_run c.args.steps.now) _ (Ok tt)
    c.in_ok-check_chosen.ensures)
    (next (after_lines c.args.dry_run c.args.machine.now c.args.steps.now)
    (along says_any _ _ (c.as_bytes.ensures ∙ c.in_ok-text.ensures)
    (c.in_ok-say_any.ensures files err))
    (c.unload_unless.ensures files err))
