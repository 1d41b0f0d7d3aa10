use Rattle.std.proofs.lemmas.Result.{err_from_is_err_and}
use Rattle.km_course.proofs.Steps.{next, exits}
use Rattle.command_remove.proofs.RemoveSteps.{after_known}
use Rattle.command_remove.proofs.course.remove_over.Goals as goal

pub returns-in_err-known : goal.returns-in_err-known
returns-in_err-known g c = λ err.
    let p = err_from_is_err_and c.from_residual.result c.from_residual.ensures.1 in
    let sources = c.args.sources in
    exits _ _ (after_known c.args.folder.now c.args.removal.now sources.system_map sources.symvers
    c.args.region) p.1 p.2
    (c.in_err-known.ensures (g.O.Out.seen c.args.out.now) err)

pub returns : goal.returns
returns g c = λ err.
    let sources = c.args.sources in
    next (after_known c.args.folder.now c.args.removal.now sources.system_map sources.symvers
    c.args.region)
    (c.in_ok-known.ensures (g.O.Out.seen c.args.out.now) err)
    (c.remove_known.ensures err)
