use Rattle.std.proofs.Common.{sym, subst}
use Rattle.std.specs.Prelude.{Err}
use Rattle.km_course.specs.Follows.{Answers}
use Rattle.model_loader.specs.Machine.{Machine}
use Rattle.stages_files.specs.KernelTable.{table_of}
use Rattle.stages_loads.specs.Tables.{machine_outcome, unplaced}
use Rattle.stages_loads.proofs.TableSteps.{made_ok, made_not}
use Rattle.stages_loads.proofs.machine.make_machine.Goals as goal

pub returns-in-Ok : goal.returns-in-Ok
returns-in-Ok c =
    made_ok c.args.kernel c.args.region _ c.in-Ok.machine c.in-Ok.ensures.passed
    c.in-Ok.ensures.machine

pub returns-in-Err-KernelWithoutAddress : goal.returns-in-Err-KernelWithoutAddress
returns-in-Err-KernelWithoutAddress c =
    let found = c.in-Err-KernelWithoutAddress in
    subst (λ stop. Answers (λ (x : Machine). x)
    (machine_outcome (table_of c.args.kernel) c.args.region (unplaced c.args.kernel.exports))
    (Err stop)) (sym c.from.ensures)
    (made_not (table_of c.args.kernel) c.args.region _ found.field-0 found.name found.field-0-is
    found.ensures.fault)
