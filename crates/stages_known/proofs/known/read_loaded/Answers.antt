use Rattle.std.proofs.Common.{ap, ◌∙◌}
use Rattle.std.proofs.lemmas.Result.{err_from_is_err_and}
use Rattle.km_course.proofs.Steps.{next, exits, wants}
use Rattle.loaded_list.specs.Loaded.{loaded_of}
use Rattle.stages_known.proofs.KnownSteps.{loaded_stated, given-path, no-path, loaded-given}
use Rattle.stages_known.proofs.known.read_loaded.Goals as goal

pub returns-in_err-bytes-in-Some : goal.returns-in_err-bytes-in-Some
returns-in_err-bytes-in-Some g c = λ out err.
    let p = err_from_is_err_and c.from_residual.result c.from_residual.ensures.1 in
    given-path c.args.path c.in-Some.path _ _ _ c.in-Some.is
    (exits _ _ loaded_stated p.1 p.2 (c.in_err-bytes-in-Some.ensures.follows out err))

pub returns-in_err-loaded-in-Some : goal.returns-in_err-loaded-in-Some
returns-in_err-loaded-in-Some g c = λ out err.
    let p
    = err_from_is_err_and c.from_residual-in_err-loaded-in-Some.result
    c.from_residual-in_err-loaded-in-Some.ensures.1 in
    given-path c.args.path c.in-Some.path _ _ _ c.in-Some.is
    (next loaded_stated (c.in_ok-bytes-in-Some.ensures.follows out err) (wants _ _ _ _ p.1 p.2))

pub returns-in_ok-loaded-in-Some : goal.returns-in_ok-loaded-in-Some
returns-in_ok-loaded-in-Some g c = λ out err.
    given-path c.args.path c.in-Some.path _ _ _ c.in-Some.is
    (next loaded_stated (c.in_ok-bytes-in-Some.ensures.follows out err)
    (loaded-given c.in_ok-bytes-in-Some.bytes c.in_ok-loaded-in-Some.loaded _
    (c.in_ok-loaded-in-Some.ensures ∙ ap loaded_of c.as_bytes.ensures)))

pub returns-in-None : goal.returns-in-None
returns-in-None g c = λ out err.
    no-path c.args.path c.new.result _ c.in-None.is c.new.ensures
