use Rattle.std.proofs.lemmas.Result.{err_from_is_err_and}
use Rattle.km_course.proofs.Steps.{next, exits, gave}
use Rattle.stages_known.specs.declared.known.Known.{Known}
use Rattle.stages_known.proofs.KnownSteps.{after_softdep, after_unmet, after_loaded}
use Rattle.stages_known.proofs.known.read_lists.Goals as goal

pub returns-in_err-rules : goal.returns-in_err-rules
returns-in_err-rules g c = λ out err.
    let p = err_from_is_err_and c.from_residual.result c.from_residual.ensures.1 in
    exits _ _ (after_softdep c.args.folder.now c.args.indexes c.args.loaded) p.1 p.2
    (c.in_err-rules.ensures out err)

pub returns-in_err-unmet : goal.returns-in_err-unmet
returns-in_err-unmet g c = λ out err.
    let p
    = err_from_is_err_and c.from_residual-in_err-unmet.result
    c.from_residual-in_err-unmet.ensures.1 in
    next (after_softdep c.args.folder.now c.args.indexes c.args.loaded)
    (c.in_ok-rules.ensures out err)
    (exits _ _ (after_unmet c.args.indexes c.args.loaded c.in_ok-rules.rules) p.1 p.2
    (c.in_err-unmet.ensures out err))

pub returns-in_err-listed : goal.returns-in_err-listed
returns-in_err-listed g c = λ out err.
    let p
    = err_from_is_err_and c.from_residual-in_err-listed.result
    c.from_residual-in_err-listed.ensures.1 in
    next (after_softdep c.args.folder.now c.args.indexes c.args.loaded)
    (c.in_ok-rules.ensures out err)
    (next (after_unmet c.args.indexes c.args.loaded c.in_ok-rules.rules)
    (c.in_ok-unmet.ensures out err)
    (exits _ _ (after_loaded c.args.indexes c.in_ok-rules.rules c.in_ok-unmet.unmet) p.1 p.2
    (c.in_err-listed.ensures out err)))

pub returns : goal.returns
returns g c = λ out err.
    next (after_softdep c.args.folder.now c.args.indexes c.args.loaded)
    (c.in_ok-rules.ensures out err)
    (next (after_unmet c.args.indexes c.args.loaded c.in_ok-rules.rules)
    (c.in_ok-unmet.ensures out err)
    (next (after_loaded c.args.indexes c.in_ok-rules.rules c.in_ok-unmet.unmet)
    (c.in_ok-listed.ensures out err)
    (gave (λ (x : Known). x) _
    (record {
      rules = c.in_ok-rules.rules;
      indexes = c.args.indexes;
      unmet = c.in_ok-unmet.unmet;
      loaded = c.in_ok-listed.listed;
    }))))
