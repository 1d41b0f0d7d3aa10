use Rattle.std.proofs.Common.{List, subst}
use Rattle.std.proofs.lemmas.Result.{err_from_is_err_and}
use Rattle.km_course.specs.Follows.{Answers}
use Rattle.km_course.proofs.Steps.{next, exits, wants, answered}
use Rattle.symbol_binding.specs.declared.unbound.Unbound.{Unbound}
use Rattle.unmet_file.specs.Unmet.{unmet_of}
use Rattle.stages_files.specs.Configuration.{stated_outcome}
use Rattle.stages_known.proofs.KnownSteps.{unmet_stated, at-unmet}
use Rattle.stages_known.proofs.known.read_unmet.Goals as goal

pub returns-in_err-path : goal.returns-in_err-path
returns-in_err-path g c = λ out err.
    let p = err_from_is_err_and c.from_residual.result c.from_residual.ensures.1 in
    wants _ _ _ _ p.1 p.2

pub returns-in_err-bytes : goal.returns-in_err-bytes
returns-in_err-bytes g c = λ out err.
    let p
    = err_from_is_err_and c.from_residual-in_err-bytes.result
    c.from_residual-in_err-bytes.ensures.1 in
    at-unmet c.args.folder.now c.in_ok-path.path _ _ _ c.in_ok-path.ensures
    (exits _ _ (unmet_stated c.in_ok-path.path) p.1 p.2 (c.in_err-bytes.ensures.follows out err))

pub returns : goal.returns
returns g c = λ out err.
    let path = c.in_ok-path.path in
    at-unmet c.args.folder.now path _ _ _ c.in_ok-path.ensures
    (next (unmet_stated path) (c.in_ok-bytes.ensures.follows out err)
    (answered (λ (x : List Unbound). x) (stated_outcome (unmet_of path c.in_ok-bytes.bytes)) _
    c.unmet_in.result
    (subst (λ bytes. Answers (λ (x : List Unbound). x) (stated_outcome (unmet_of path bytes))
    c.unmet_in.result) c.as_bytes.ensures c.unmet_in.ensures)))
