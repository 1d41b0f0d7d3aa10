use Rattle.std.proofs.Common.{ap, ◌∙◌}
use Rattle.std.proofs.lemmas.Result.{err_from_is_err_and}
use Rattle.km_names.specs.Path.{path_below}
use Rattle.km_course.specs.Course.{puts}
use Rattle.km_course.proofs.Steps.{wants}
use Rattle.km_course.proofs.Following.{along}
use Rattle.command_depmod.proofs.outputs.put_file.Goals as goal

pub returns-in_err-path : goal.returns-in_err-path
returns-in_err-path g c = λ out err.
    let p = err_from_is_err_and c.from_residual.result c.from_residual.ensures.1 in
    wants _ _ _ _ p.1 p.2

pub returns : goal.returns
returns g c = λ out err.
    along (puts (path_below c.args.folder.now _)) _ _ c.content.ensures
    (along (λ path. puts path c.content.result.now) _ _
    (c.in_ok-path.ensures ∙ ap (path_below c.args.folder.now) c.name.ensures)
    (c.put.ensures out err))
