use Rattle.std.proofs.lemmas.Result.{err_from_is_err_and}
use Rattle.model_loader.specs.Machine.{Machine}
use Rattle.model_loader.specs.Step.{step}
use Rattle.km_course.proofs.Steps.{next, exits, answered}
use Rattle.stages_loads.specs.declared.load.Cause.TheVariants.{Listed}
use Rattle.stages_loads.specs.Loads.{load_outcome}
use Rattle.stages_loads.proofs.ListedSteps.{listed_read}
use Rattle.stages_loads.proofs.listed.load_listed_file.Goals as goal

pub returns-in_err-module : goal.returns-in_err-module
returns-in_err-module g c = λ out err.
    let p = err_from_is_err_and c.from_residual.result c.from_residual.ensures.1 in
    exits _ _ (listed_read c.args.machine) p.1 p.2 (c.in_err-module.ensures out err)

pub returns : goal.returns
returns g c = λ out err.
    let m = c.in_ok-module.module in
    next (listed_read c.args.machine) (c.in_ok-module.ensures out err)
    (answered (λ (x : Machine). x) (load_outcome Listed m.facts.name (step c.args.machine m)) _
    c.load-after.result c.load-after.ensures)
