use Rattle.std.proofs.lemmas.Result.{err_from_is_err_and}
use Rattle.km_course.proofs.Steps.{wants}
use Rattle.stages_known.proofs.KnownSteps.{at-index}
use Rattle.stages_known.proofs.known.read_index_in.Goals as goal

pub returns-in_err-path : goal.returns-in_err-path
returns-in_err-path g c = λ out err.
    let p = err_from_is_err_and c.from_residual.result c.from_residual.ensures.1 in
    wants _ _ _ _ p.1 p.2

pub returns : goal.returns
returns g c = λ out err.
    at-index c.args.folder.now c.args.name.now c.in_ok-path.path _ _ _ c.in_ok-path.ensures
    (c.read_index.ensures out err)
