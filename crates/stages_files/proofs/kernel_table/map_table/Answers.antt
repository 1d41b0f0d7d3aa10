use Rattle.std.proofs.Common.{ap, subst, sym, ◌∙◌, true}
use Rattle.std.specs.Prelude.{Err}
use Rattle.kernel_exports.specs.KernelTable.{exports_of_map}
use Rattle.km_course.specs.Follows.{Answers}
use Rattle.stages_files.specs.KernelTable.{table_of, table_outcome}
use Rattle.stages_files.proofs.TableSteps.{tabled, tabled_not}
use Rattle.stages_files.proofs.kernel_table.map_table.Goals as goal

pub returns-in-Ok : goal.returns-in-Ok
returns-in-Ok c =
    tabled c.args.file _ c.in-Ok.kernel c.in-Ok.ensures.known
    (ap exports_of_map (sym c.as_bytes.ensures) ∙ c.in-Ok.ensures.exports)

pub returns : goal.returns
returns c =
    subst (λ bytes. Answers table_of (table_outcome c.args.file true (exports_of_map bytes))
    (Err c.stop_of_table.result)) c.as_bytes.ensures
    (tabled_not c.args.file _ c.in-Err.fault c.stop_of_table.result c.in-Err.ensures.err
    c.stop_of_table.ensures)
