use Rattle.std.proofs.lemmas.Result.{err_from_is_err_and}
use Rattle.km_course.proofs.Following.{along}
use Rattle.km_course.proofs.Steps.{wants}
use Rattle.stages_known.specs.Known.{reads_known}
use Rattle.command_modprobe.specs.declared.basis.Basis.{Basis}
use Rattle.command_modprobe.proofs.BasisSteps.{given-in, stopped-in}
use Rattle.command_modprobe.proofs.basis.read_basis.Goals as goal

pub returns-in_err-folder-clause-known : goal.returns-in_err-folder-clause-known
returns-in_err-folder-clause-known g c = λ out err.
    let p = err_from_is_err_and c.from_residual.result c.from_residual.ensures.1 in
    wants _ _ _ _ p.1 p.2

pub returns-in_err-request-clause-known : goal.returns-in_err-request-clause-known
returns-in_err-request-clause-known g c = λ out err.
    let p
    = err_from_is_err_and c.from_residual-in_err-request.result
    c.from_residual-in_err-request.ensures.1 in
    wants _ _ _ _ p.1 p.2

pub returns-in_err-known-clause-known : goal.returns-in_err-known-clause-known
returns-in_err-known-clause-known g c = λ out err.
    let p
    = err_from_is_err_and c.from_residual-in_err-known.result
    c.from_residual-in_err-known.ensures.1 in
    let asked = c.args.asked in
    along (λ folder. reads_known asked.config folder asked.loaded) _ _ c.in_ok-folder.ensures
    (stopped-in _ _ p.1 p.2 (c.in_err-known.ensures out err))

pub returns-clause-known : goal.returns-clause-known
returns-clause-known g c = λ out err.
    let asked = c.args.asked in
    along (λ folder. reads_known asked.config folder asked.loaded) _ _ c.in_ok-folder.ensures
    (given-in (λ (basis : Basis). basis.known) _ (c.in_ok-known.ensures out err))
