use Rattle.std.proofs.Common.{◌∙◌}
use Rattle.std.proofs.lemmas.Result.{err_from_is_err_and}
use Rattle.km_course.specs.Course.{says_any}
use Rattle.km_course.proofs.Following.{along}
use Rattle.km_course.proofs.Steps.{wants}
use Rattle.command_modprobe.proofs.plan.say_plan.Goals as goal

pub returns-in_err-text : goal.returns-in_err-text
returns-in_err-text g c = λ files err.
    let p = err_from_is_err_and c.from_residual.result c.from_residual.ensures.1 in
    wants _ _ _ _ p.1 p.2

pub returns : goal.returns
returns g c = λ files err.
    along says_any _ _ (c.as_bytes.ensures ∙ c.in_ok-text.ensures) (c.say_any.ensures files err)
