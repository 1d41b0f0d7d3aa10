use Rattle.std.proofs.Common.{ℕ, List}
use Rattle.std.specs.Prelude.{Ok, Err, option_copied}
use Rattle.std.proofs.lemmas.Result.{err_from_is_err_and}
use Rattle.km_course.proofs.Steps.{next, exits, answered}
use Rattle.stages_loads.specs.Listed.{listed_outcome}
use Rattle.stages_loads.proofs.ListedSteps.{listed_found}
use Rattle.stages_loads.proofs.listed.load_listed_at.Goals as goal

pub returns-in_err-path : goal.returns-in_err-path
returns-in_err-path g c = λ out err.
    let p = err_from_is_err_and c.from_residual.result c.from_residual.ensures.1 in
    exits _ _ (listed_found c.args.folder.now c.args.machine) p.1 p.2
    (answered (λ (x : List ℕ). x) (listed_outcome c.args.name.now (option_copied c.args.found)) _
    (Err _) c.in_err-path.ensures)

pub returns : goal.returns
returns g c = λ out err.
    next (listed_found c.args.folder.now c.args.machine)
    (answered (λ (x : List ℕ). x) (listed_outcome c.args.name.now (option_copied c.args.found)) _
    (Ok c.in_ok-path.path) c.in_ok-path.ensures)
    (c.load_listed_file.ensures out err)
