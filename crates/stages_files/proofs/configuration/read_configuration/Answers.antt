use Rattle.std.proofs.Common.{List, sym, subst, ◌∙◌}
use Rattle.std.proofs.lemmas.Result.{err_from_is_err_and}
use Rattle.km_names.specs.declared.conf.ConfFile.{ConfFile}
use Rattle.km_course.specs.World.{world}
use Rattle.km_course.specs.Follows.{Follows}
use Rattle.km_course.proofs.Steps.{next, exits, wants}
use Rattle.stages_files.specs.Configuration.{reads_configuration, reads_listed}
use Rattle.stages_files.proofs.ConfigurationSteps.{in-folders}
use Rattle.stages_files.proofs.configuration.read_configuration.Goals as goal

pub returns-in_err-roots-in-None-clause-follows : goal.returns-in_err-roots-in-None-clause-follows
returns-in_err-roots-in-None-clause-follows g c = λ out err.
    let p = err_from_is_err_and c.from_residual.result c.from_residual.ensures.1 in
    wants _ _ _ _ p.1 p.2

pub returns-in_err-folders-in-None-clause-follows :
    goal.returns-in_err-folders-in-None-clause-follows
returns-in_err-folders-in-None-clause-follows g c = λ out err.
    let p
    = err_from_is_err_and c.from_residual-in_err-folders-in-None.result
    c.from_residual-in_err-folders-in-None.ensures.1 in
    in-folders c.args.tool c.args.config _ _ _ _ c.in-None.is
    (c.as_slice.ensures ∙ c.in_ok-roots-in-None.ensures)
    (exits _ _ (λ folders. reads_listed folders) p.1 p.2 (c.in_err-folders-in-None.ensures out err))

pub returns-in-Some-clause-follows : goal.returns-in-Some-clause-follows
returns-in-Some-clause-follows g c = λ out err.
    subst (λ config. Follows (λ (x : List ConfFile). x) (reads_configuration c.args.tool config)
    (world (g.F.Reads.seen c.args.files.now) out err)
    (world (g.F.Reads.seen c.read_given.new.files) out err) c.read_given.result)
    (sym c.in-Some.is)
    (c.read_given.ensures.follows out err)

pub returns-in_ok-folders-in-None-clause-follows : goal.returns-in_ok-folders-in-None-clause-follows
returns-in_ok-folders-in-None-clause-follows g c = λ out err.
    in-folders c.args.tool c.args.config _ _ _ _ c.in-None.is
    (c.as_slice.ensures ∙ c.in_ok-roots-in-None.ensures)
    (next (λ folders. reads_listed folders) (c.in_ok-folders-in-None.ensures out err)
    (c.read_listed.ensures.follows out err))
