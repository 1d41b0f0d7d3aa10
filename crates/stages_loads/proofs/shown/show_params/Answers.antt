use Rattle.std.proofs.Common.{◌∙◌}
use Rattle.std.specs.Prelude.{option_copied, Ok, Err}
use Rattle.std.proofs.lemmas.Result.{err_from_is_err_and}
use Rattle.param_apply.specs.declared.apply.Params.{Params}
use Rattle.km_course.proofs.Steps.{next, exits, wants, answered}
use Rattle.km_course.proofs.Following.{along}
use Rattle.stages_loads.specs.Loads.{params_outcome, shows_image}
use Rattle.stages_loads.proofs.LoadSteps.{finished_shown, same-shown}
use Rattle.stages_loads.proofs.shown.show_params.Goals as goal

pub returns-in_err-params : goal.returns-in_err-params
returns-in_err-params g c = λ err.
    let p = err_from_is_err_and c.from_residual.result c.from_residual.ensures.1 in
    exits _ _ (finished_shown (option_copied c.args.folder) c.args.loaded.now.name) p.1 p.2
    (answered (λ (x : Params). x)
    (params_outcome c.args.module.now c.args.options.now c.args.loaded.now c.args.image.now)
    _ (Err _) c.in_err-params.ensures)

pub returns-in_err-name : goal.returns-in_err-name
returns-in_err-name g c = λ err.
    let p
    = err_from_is_err_and c.from_residual-in_err-name.result
    c.from_residual-in_err-name.ensures.1 in
    next (finished_shown (option_copied c.args.folder) c.args.loaded.now.name)
    (answered (λ (x : Params). x)
    (params_outcome c.args.module.now c.args.options.now c.args.loaded.now c.args.image.now)
    _ (Ok c.in_ok-params.params) c.in_ok-params.ensures)
    (wants _ _ _ _ p.1 p.2)

pub returns-in_err-line : goal.returns-in_err-line
returns-in_err-line g c = λ err.
    let p
    = err_from_is_err_and c.from_residual-in_err-line.result
    c.from_residual-in_err-line.ensures.1 in
    next (finished_shown (option_copied c.args.folder) c.args.loaded.now.name)
    (answered (λ (x : Params). x)
    (params_outcome c.args.module.now c.args.options.now c.args.loaded.now c.args.image.now)
    _ (Ok c.in_ok-params.params) c.in_ok-params.ensures)
    (wants _ _ _ _ p.1 p.2)

pub returns : goal.returns
returns g c = λ err.
    let name = c.args.loaded.now.name in
    let params = c.in_ok-params.params in
    next (finished_shown (option_copied c.args.folder) name)
    (answered (λ (x : Params). x)
    (params_outcome c.args.module.now c.args.options.now c.args.loaded.now c.args.image.now)
    _ (Ok params) c.in_ok-params.ensures)
    (along (shows_image (option_copied c.args.folder)) _ _
    (same-shown (c.as_bytes.ensures ∙ c.in_ok-name.ensures) c.as_bytes-2.ensures
    c.in_ok-line.ensures)
    (c.show_image.ensures err))
