use Rattle.std.proofs.Common.{List, ap, ◌∙◌, subst}
use Rattle.std.proofs.lemmas.Result.{err_from_is_err_and}
use Rattle.km_names.specs.declared.conf.ConfFile.{ConfFile}
use Rattle.km_course.specs.World.{world}
use Rattle.km_course.specs.Follows.{Follows}
use Rattle.km_course.proofs.Steps.{wants}
use Rattle.stages_files.specs.Configuration.{reads_files, paths_of}
use Rattle.stages_files.proofs.configuration.read_listed.Goals as goal

pub returns-in_err-paths-clause-follows : goal.returns-in_err-paths-clause-follows
returns-in_err-paths-clause-follows g c = λ out err.
    let p = err_from_is_err_and c.from_residual.result c.from_residual.ensures.1 in
    wants _ _ _ _ p.1 p.2

pub returns-clause-follows : goal.returns-clause-follows
returns-clause-follows g c = λ out err.
    subst (λ paths. Follows (λ (x : List ConfFile). x) (reads_files paths)
    (world (g.F.Reads.seen c.args.files.now) out err)
    (world (g.F.Reads.seen c.read_files.new.files) out err) c.read_files.result)
    (c.as_slice-2.ensures ∙ c.in_ok-paths.ensures ∙ ap paths_of c.as_slice.ensures)
    (c.read_files.ensures.follows out err)
