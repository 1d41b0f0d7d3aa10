use Rattle.std.proofs.Common.{◌∙◌}
use Rattle.std.proofs.lemmas.Result.{err_from_is_err_and}
use Rattle.km_course.specs.Course.{says_any}
use Rattle.km_course.proofs.Steps.{next, exits, wants}
use Rattle.km_course.proofs.Following.{along}
use Rattle.command_remove.proofs.RemoveSteps.{after_left}
use Rattle.command_remove.proofs.unloads.unload_and_list.Goals as goal

pub returns-in_err-unload_steps : goal.returns-in_err-unload_steps
returns-in_err-unload_steps g c = λ files err.
    let p = err_from_is_err_and c.from_residual.result c.from_residual.ensures.1 in
    exits _ _ after_left p.1 p.2 (c.in_err-unload_steps.ensures files err)

pub returns-in_err-text : goal.returns-in_err-text
returns-in_err-text g c = λ files err.
    let p
    = err_from_is_err_and c.from_residual-in_err-text.result
    c.from_residual-in_err-text.ensures.1 in
    next after_left (c.in_ok-unload_steps.ensures files err) (wants _ _ _ _ p.1 p.2)

pub returns : goal.returns
returns g c = λ files err.
    next after_left (c.in_ok-unload_steps.ensures files err)
    (along says_any _ _ (c.as_bytes.ensures ∙ c.in_ok-text.ensures) (c.say_any.ensures files err))
