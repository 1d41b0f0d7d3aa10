use Rattle.std.proofs.lemmas.Result.{err_from_is_err_and}
use Rattle.km_course.proofs.Steps.{next, exits}
use Rattle.stages_loads.proofs.LoadSteps.{one_read}
use Rattle.stages_loads.proofs.load.load_one.Goals as goal

pub returns-in_err-module : goal.returns-in_err-module
returns-in_err-module g c = λ err.
    let p = err_from_is_err_and c.from_residual.result c.from_residual.ensures.1 in
    exits _ _ (one_read c.args.images.now c.args.insert.now.options c.args.machine) p.1 p.2
    (c.in_err-module.ensures (g.O.Out.seen c.args.out.now) err)

pub returns : goal.returns
returns g c = λ err.
    next (one_read c.args.images.now c.args.insert.now.options c.args.machine)
    (c.in_ok-module.ensures (g.O.Out.seen c.args.out.now) err)
    (c.load_read-after.ensures err)
