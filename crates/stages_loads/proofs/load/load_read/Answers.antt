use Rattle.std.specs.Prelude.{Ok, Err}
use Rattle.std.proofs.lemmas.Result.{err_from_is_err_and}
use Rattle.model_loader.specs.Machine.{Machine}
use Rattle.model_loader.specs.Step.{step}
use Rattle.km_course.proofs.Steps.{next, exits, answered, gave}
use Rattle.stages_loads.specs.declared.load.Cause.TheVariants.{Planned}
use Rattle.stages_loads.specs.Loads.{entered, load_outcome}
use Rattle.stages_loads.proofs.LoadSteps.{entered-long, newest, one_loaded, one_shown}
use Rattle.stages_loads.proofs.load.load_read.Goals as goal

pub show_load-requires : goal.show_load-requires
show_load-requires g c =
    let m = c.args.module.now in (
      entered c.args.machine m,
      newest Planned m.facts.name c.args.machine c.in_ok-after.after m c.in_ok-after.ensures,
      entered-long c.args.machine m,
    )

pub returns-in_err-after : goal.returns-in_err-after
returns-in_err-after g c = λ err.
    let p = err_from_is_err_and c.from_residual.result c.from_residual.ensures.1 in
    let m = c.args.module.now in
    exits _ _ (one_loaded c.args.images.now c.args.options.now c.args.machine m) p.1 p.2
    (answered (λ (x : Machine). x) (load_outcome Planned m.facts.name (step c.args.machine m)) _
    (Err _) c.in_err-after.ensures)

pub returns-in_err-show_load : goal.returns-in_err-show_load
returns-in_err-show_load g c = λ err.
    let p
    = err_from_is_err_and c.from_residual-in_err-show_load.result
    c.from_residual-in_err-show_load.ensures.1 in
    let m = c.args.module.now in
    let after = c.in_ok-after.after in
    next (one_loaded c.args.images.now c.args.options.now c.args.machine m)
    (answered (λ (x : Machine). x) (load_outcome Planned m.facts.name (step c.args.machine m)) _
    (Ok after) c.in_ok-after.ensures)
    (exits _ _ (one_shown after) p.1 p.2
    (c.in_err-show_load.ensures (entered c.args.machine m)
    (newest Planned m.facts.name c.args.machine after m c.in_ok-after.ensures) err))

pub returns : goal.returns
returns g c = λ err.
    let m = c.args.module.now in
    let after = c.in_ok-after.after in
    next (one_loaded c.args.images.now c.args.options.now c.args.machine m)
    (answered (λ (x : Machine). x) (load_outcome Planned m.facts.name (step c.args.machine m)) _
    (Ok after) c.in_ok-after.ensures)
    (next (one_shown after)
    (c.in_ok-show_load.ensures (entered c.args.machine m)
    (newest Planned m.facts.name c.args.machine after m c.in_ok-after.ensures) err)
    (gave (λ (x : Machine). x) _ after))
