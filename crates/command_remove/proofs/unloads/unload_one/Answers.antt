use Rattle.std.proofs.Common.{◌≡◌, ◌++◌, ◌∙◌, ℕ, ap, sym}
use Rattle.std.specs.Prelude.{codes, Ok}
use Rattle.std.proofs.lemmas.Result.{err_from_is_err_and}
use Rattle.model_loader.specs.Machine.{Machine}
use Rattle.model_unload.specs.Unload.{unloaded}
use Rattle.km_course.specs.Course.{gives, says}
use Rattle.km_course.proofs.Steps.{exits, gave, next, wants}
use Rattle.km_course.proofs.Following.{along}
use Rattle.command_remove.specs.Lines.{line_of_two, unloaded_line}
use Rattle.command_remove.specs.Remove.{step_name, without_named}
use Rattle.command_remove.proofs.RemoveSteps.{one_unloaded, removed-is}
use Rattle.command_remove.proofs.unloads.unload_one.Goals as goal

pub returns-in_err-push_two-clause-follows : goal.returns-in_err-push_two-clause-follows
returns-in_err-push_two-clause-follows g c = λ files err.
    let p = err_from_is_err_and c.from_residual.result c.from_residual.ensures.1 in
    wants _ _ _ _ p.1 p.2

pub returns-in_err-say-clause-follows : goal.returns-in_err-say-clause-follows
returns-in_err-say-clause-follows g c = λ files err.
    let p
    = err_from_is_err_and c.from_residual-in_err-say.result c.from_residual-in_err-say.ensures.1
    in
    let line
    = c.as_bytes.ensures ∙ c.in_ok-push_two.ensures
    ∙ ap (λ t. t ++ line_of_two (codes "unloaded ") c.step_name-name.result.now)
    c.new-line.ensures
    ∙ ap unloaded_line c.step_name-name.ensures in
    exits _ _ (one_unloaded c.args.machine.now c.args.step.now) p.1 p.2
    (along says _ (unloaded_line (step_name c.args.step.now)) line (c.in_err-say.ensures files err))

pub returns-clause-follows : goal.returns-clause-follows
returns-clause-follows g c = λ files err.
    let machine = c.args.machine.now in
    let after = c.unload_below-place.new.machine in
    let name = step_name c.args.step.now in
    let line
    = c.as_bytes.ensures ∙ c.in_ok-push_two.ensures
    ∙ ap (λ t. t ++ line_of_two (codes "unloaded ") c.step_name-name.result.now)
    c.new-line.ensures
    ∙ ap unloaded_line c.step_name-name.ensures in
    let took : unloaded machine name ≡ Ok after
    = ap (unloaded machine) (sym c.step_name-name.ensures)
    ∙ c.unload_below-place.ensures.done in
    next (one_unloaded machine c.args.step.now)
    (along says _ (unloaded_line name) line (c.in_ok-say.ensures files err))
    (along (λ (m : Machine). gives m) after (without_named machine name)
    (removed-is machine name after took)
    (gave (λ (place : ℕ). after) _ c.unload_below-place.result))
