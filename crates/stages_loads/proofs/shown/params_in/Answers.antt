use Rattle.std.proofs.Common.{◌≡◌, sym, subst, ◌∙◌, arith}
use Rattle.std.specs.Prelude.{Err}
use Rattle.param_apply.specs.declared.apply.Params.{Params}
use Rattle.km_course.specs.Course.Outcome.{value, end}
use Rattle.km_course.specs.Follows.{Answers}
use Rattle.km_course.specs.declared.end.End.TheVariants.{Refused}
use Rattle.km_course.specs.declared.refusal.Refusal.TheVariants.{ParamsRefused}
use Rattle.stages_loads.specs.Loads.{params_outcome}
use Rattle.stages_loads.proofs.LoadSteps.{params_ok, params_not}
use Rattle.stages_loads.proofs.shown.params_in.Goals as goal

pub returns-in-Ok : goal.returns-in-Ok
returns-in-Ok c =
    let m = c.args.module.now in
    subst (λ options. params_outcome m options c.args.loaded.now c.args.image.now
    ≡ value c.in-Ok.params) c.as_bytes.ensures
    (params_ok m c.as_bytes.result.now c.args.loaded.now c.args.image.now c.in-Ok.params
    c.in-Ok.ensures.image c.in-Ok.ensures.count c.in-Ok.ensures.passed)

pub returns : goal.returns
returns c =
    let m = c.args.module.now in
    subst (λ stop. Answers (λ (x : Params). x)
    (params_outcome m c.args.options.now c.args.loaded.now c.args.image.now) (Err stop))
    (sym c.from.ensures)
    (subst (λ options. params_outcome m options c.args.loaded.now c.args.image.now
    ≡ end (Refused
    (ParamsRefused c.in_ok-name-in-BadParamTable.name c.in_ok-text-in-BadParamTable.text)))
    c.as_bytes.ensures
    (params_not m c.as_bytes.result.now c.args.loaded.now c.args.image.now
    c.in_ok-name-in-BadParamTable.name c.in_ok-text-in-BadParamTable.text c.in-Err.fault
    c.in-Err.ensures.fault (λ ran_out. let is = c.in-BadParamTable.is in grind arith)
    c.in_ok-text-in-BadParamTable.ensures
    (c.in_ok-name-in-BadParamTable.ensures ∙ c.as_bytes-in-BadParamTable.ensures)))
