use Rattle.std.proofs.Common.{sym, ◌∙◌}
use Rattle.std.proofs.lemmas.Result.{err_from_is_err_and}
use Rattle.km_course.proofs.Steps.{wants}
use Rattle.command_depmod.proofs.WarningSteps.{warned, warned_none}
use Rattle.command_depmod.proofs.warnings.warn_of.Goals as goal

pub returns-in_err-text : goal.returns-in_err-text
returns-in_err-text g c = λ files out.
    let p = err_from_is_err_and c.from_residual.result c.from_residual.ensures.1 in
    wants _ _ _ _ p.1 p.2

pub returns-in-Some : goal.returns-in-Some
returns-in-Some g c = λ files out.
    warned _ c.in-Some.text _ _ _ _ (sym c.in-Some.is ∙ c.in_ok-text.ensures) c.as_bytes.ensures
    (c.warn.ensures files out)

pub returns-in-None : goal.returns-in-None
returns-in-None g c = λ files out. warned_none _ _ (sym c.in-None.is ∙ c.in_ok-text.ensures)
