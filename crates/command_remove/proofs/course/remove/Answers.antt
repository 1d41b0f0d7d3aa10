use Rattle.std.proofs.lemmas.Result.{err_from_is_err_and}
use Rattle.km_course.proofs.Steps.{wants}
use Rattle.command_remove.proofs.RemoveSteps.{removes-asked}
use Rattle.command_remove.proofs.course.remove.Goals as goal

pub returns-in_err-folder : goal.returns-in_err-folder
returns-in_err-folder g c = λ err.
    let p = err_from_is_err_and c.from_residual.result c.from_residual.ensures.1 in
    wants _ _ _ _ p.1 p.2

pub returns : goal.returns
returns g c = λ err.
    removes-asked c.args.dry_run c.args.asked c.in_ok-folder.folder c.args.system_map
    c.region-region.result _ _ _ c.in_ok-folder.ensures c.region-region.ensures
    (c.remove_over.ensures err)
