use Rattle.std.proofs.Common.{◌∷◌, ◌++◌, []}
use Rattle.std.proofs.lemmas.Result.{err_from_is_err_and}
use Rattle.km_course.proofs.Steps.{next, exits, wants}
use Rattle.stages_files.proofs.ConfigurationSteps.{folder_added, at-root, gave-as}
use Rattle.stages_files.proofs.configuration.with_folder.Goals as goal

pub returns-in_err-path : goal.returns-in_err-path
returns-in_err-path g c = λ out err.
    let p = err_from_is_err_and c.from_residual.result c.from_residual.ensures.1 in
    wants _ _ _ _ p.1 p.2

pub returns-in_err-names : goal.returns-in_err-names
returns-in_err-names g c = λ out err.
    let p
    = err_from_is_err_and c.from_residual-in_err-names.result
    c.from_residual-in_err-names.ensures.1 in
    let path = c.in_ok-path.path in
    at-root c.args.name.now c.args.root.now path c.args.listed _ _ _ c.in_ok-path.ensures
    (exits _ _ (folder_added c.args.listed path) p.1 p.2 (c.in_err-names.ensures out err))

pub returns-in_err-push : goal.returns-in_err-push
returns-in_err-push g c = λ out err.
    let p
    = err_from_is_err_and c.from_residual-in_err-push.result
    c.from_residual-in_err-push.ensures.1 in
    let path = c.in_ok-path.path in
    at-root c.args.name.now c.args.root.now path c.args.listed _ _ _ c.in_ok-path.ensures
    (next (folder_added c.args.listed path) (c.in_ok-names.ensures out err) (wants _ _ _ _ p.1 p.2))

pub returns : goal.returns
returns g c = λ out err.
    let path = c.in_ok-path.path in
    at-root c.args.name.now c.args.root.now path c.args.listed _ _ _ c.in_ok-path.ensures
    (next (folder_added c.args.listed path) (c.in_ok-names.ensures out err)
    (gave-as _ c.push.new.self
    (c.args.listed ++ record { path = path; names = c.in_ok-names.names } ∷ [])
    c.in_ok-push.ensures.ok))
