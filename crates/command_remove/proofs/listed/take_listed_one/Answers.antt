use Rattle.std.proofs.lemmas.Result.{err_from_is_err_and}
use Rattle.km_course.proofs.Following.{along}
use Rattle.km_course.proofs.Steps.{wants}
use Rattle.stages_loads.specs.Listed.{loads_listed_at}
use Rattle.command_remove.proofs.listed.take_listed_one.Goals as goal

pub returns-in_err-found : goal.returns-in_err-found
returns-in_err-found g c = λ out err.
    let p = err_from_is_err_and c.from_residual.result c.from_residual.ensures.1 in
    wants _ _ _ _ p.1 p.2

pub returns : goal.returns
returns g c = λ out err.
    along (loads_listed_at c.args.folder.now c.args.machine c.args.name.now) _ _
    c.in_ok-found.ensures (c.load_listed_at.ensures out err)
