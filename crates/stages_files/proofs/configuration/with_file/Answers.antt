use Rattle.std.proofs.Common.{◌∷◌, ◌++◌, [], ◌∙◌, ap}
use Rattle.std.proofs.lemmas.Result.{err_from_is_err_and}
use Rattle.km_course.proofs.Steps.{next, exits, wants}
use Rattle.stages_files.proofs.ConfigurationSteps.{file_added, gave-as}
use Rattle.stages_files.proofs.configuration.with_file.Goals as goal

pub returns-in_err-bytes-clause-follows : goal.returns-in_err-bytes-clause-follows
returns-in_err-bytes-clause-follows g c = λ out err.
    let p = err_from_is_err_and c.from_residual.result c.from_residual.ensures.1 in
    exits _ _ (file_added c.args.read c.args.path.now) p.1 p.2
    (c.in_err-bytes.ensures.follows out err)

pub returns-in_err-own-clause-follows : goal.returns-in_err-own-clause-follows
returns-in_err-own-clause-follows g c = λ out err.
    let p
    = err_from_is_err_and c.from_residual-in_err-own.result c.from_residual-in_err-own.ensures.1
    in
    next (file_added c.args.read c.args.path.now) (c.in_ok-bytes.ensures.follows out err)
    (wants _ _ _ _ p.1 p.2)

pub returns-in_err-push-clause-follows : goal.returns-in_err-push-clause-follows
returns-in_err-push-clause-follows g c = λ out err.
    let p
    = err_from_is_err_and c.from_residual-in_err-push.result
    c.from_residual-in_err-push.ensures.1 in
    next (file_added c.args.read c.args.path.now) (c.in_ok-bytes.ensures.follows out err)
    (wants _ _ _ _ p.1 p.2)

pub returns-clause-follows : goal.returns-clause-follows
returns-clause-follows g c = λ out err.
    let path = c.args.path.now in
    let bytes = c.in_ok-bytes.bytes in
    next (file_added c.args.read path) (c.in_ok-bytes.ensures.follows out err)
    (gave-as _ c.push.new.self (c.args.read ++ record { path = path; bytes = bytes } ∷ [])
    (c.in_ok-push.ensures.ok
    ∙ ap (λ p. c.args.read ++ record { path = p; bytes = bytes } ∷ [])
    (c.in_ok-own.ensures ∙ c.as_bytes.ensures)))
