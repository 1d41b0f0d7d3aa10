use Rattle.std.proofs.lemmas.Result.{err_from_is_err_and}
use Rattle.model_loader.specs.Machine.{Machine}
use Rattle.km_course.proofs.Steps.{next, exits, answered}
use Rattle.stages_files.specs.KernelTable.{table_of}
use Rattle.stages_loads.specs.Tables.{machine_outcome, unplaced}
use Rattle.stages_loads.proofs.TableSteps.{made}
use Rattle.stages_loads.proofs.machine.read_machine.Goals as goal

pub returns-in_err-kernel : goal.returns-in_err-kernel
returns-in_err-kernel g c = λ out err.
    let p = err_from_is_err_and c.from_residual.result c.from_residual.ensures.1 in
    exits _ _ (made c.args.region) p.1 p.2 (c.in_err-kernel.ensures out err)

pub returns : goal.returns
returns g c = λ out err.
    let kernel = c.in_ok-kernel.kernel in
    next (made c.args.region) (c.in_ok-kernel.ensures out err)
    (answered (λ (x : Machine). x)
    (machine_outcome (table_of kernel) c.args.region (unplaced kernel.exports)) _
    c.make_machine.result c.make_machine.ensures)
