use Rattle.std.proofs.Common.{List}
use Rattle.std.specs.Prelude.{Ok, Err}
use Rattle.std.proofs.lemmas.Result.{err_from_is_err_and}
use Rattle.km_course.proofs.Steps.{next, exits, answered}
use Rattle.modprobe_conf.specs.declared.rule.Rule.{Rule}
use Rattle.modprobe_conf.specs.Rules.{rules_of}
use Rattle.stages_files.specs.Configuration.{stated_outcome}
use Rattle.stages_known.proofs.KnownSteps.{after_configuration, after_rules, after_indexes}
use Rattle.stages_known.proofs.known.read_known.Goals as goal

pub returns-in_err-configuration : goal.returns-in_err-configuration
returns-in_err-configuration g c = λ out err.
    let p = err_from_is_err_and c.from_residual.result c.from_residual.ensures.1 in
    exits _ _ (after_configuration c.args.folder.now c.args.loaded) p.1 p.2
    (c.in_err-configuration.ensures.follows out err)

pub returns-in_err-stated : goal.returns-in_err-stated
returns-in_err-stated g c = λ out err.
    let p
    = err_from_is_err_and c.from_residual-in_err-stated.result
    c.from_residual-in_err-stated.ensures.1 in
    let configuration = c.in_ok-configuration.configuration in
    next (after_configuration c.args.folder.now c.args.loaded)
    (c.in_ok-configuration.ensures.follows out err)
    (exits _ _ (after_rules c.args.folder.now c.args.loaded) p.1 p.2
    (answered (λ (x : List Rule). x) (stated_outcome (rules_of configuration)) _ (Err _)
    c.in_err-stated.ensures))

pub returns-in_err-indexes : goal.returns-in_err-indexes
returns-in_err-indexes g c = λ out err.
    let p
    = err_from_is_err_and c.from_residual-in_err-indexes.result
    c.from_residual-in_err-indexes.ensures.1 in
    let configuration = c.in_ok-configuration.configuration in
    next (after_configuration c.args.folder.now c.args.loaded)
    (c.in_ok-configuration.ensures.follows out err)
    (next (after_rules c.args.folder.now c.args.loaded)
    (answered (λ (x : List Rule). x) (stated_outcome (rules_of configuration)) _
    (Ok c.in_ok-stated.stated) c.in_ok-stated.ensures)
    (exits _ _ (after_indexes c.in_ok-stated.stated c.args.folder.now c.args.loaded) p.1 p.2
    (c.in_err-indexes.ensures out err)))

pub returns : goal.returns
returns g c = λ out err.
    let configuration = c.in_ok-configuration.configuration in
    next (after_configuration c.args.folder.now c.args.loaded)
    (c.in_ok-configuration.ensures.follows out err)
    (next (after_rules c.args.folder.now c.args.loaded)
    (answered (λ (x : List Rule). x) (stated_outcome (rules_of configuration)) _
    (Ok c.in_ok-stated.stated) c.in_ok-stated.ensures)
    (next (after_indexes c.in_ok-stated.stated c.args.folder.now c.args.loaded)
    (c.in_ok-indexes.ensures out err)
    (c.read_lists.ensures out err)))
