use Rattle.std.proofs.lemmas.Result.{err_from_is_err_and}
use Rattle.km_course.proofs.Steps.{next, exits}
use Rattle.command_modprobe.proofs.LoadSteps.{after_machine}
use Rattle.command_modprobe.proofs.load.load_known.Goals as goal

pub returns-in_err-machine : goal.returns-in_err-machine
returns-in_err-machine g c = λ err.
    let p = err_from_is_err_and c.from_residual.result c.from_residual.ensures.1 in
    let basis = c.args.basis.now in
    exits _ _ (after_machine basis.folder c.args.images.now basis.request basis.known) p.1 p.2
    (c.in_err-machine.ensures (g.O.Out.seen c.args.out.now) err)

pub returns : goal.returns
returns g c = λ err.
    let basis = c.args.basis.now in
    next (after_machine basis.folder c.args.images.now basis.request basis.known)
    (c.in_ok-machine.ensures (g.O.Out.seen c.args.out.now) err)
    (c.load_request.ensures err)
