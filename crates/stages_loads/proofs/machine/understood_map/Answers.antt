use Rattle.std.proofs.Common.{◌≡◌, None, Some, ap, sym, subst, inl, inr, ◌∙◌, true}
use Rattle.std.specs.Prelude.{Err}
use Rattle.kernel_exports.specs.KernelTable.{exports_of_map}
use Rattle.kernel_exports.specs.MapLines.{map_line}
use Rattle.kernel_exports.specs.TableLines.{refused_line, stated}
use Rattle.km_course.specs.Follows.{Answers}
use Rattle.stages_files.specs.KernelTable.{table_outcome}
use Rattle.stages_loads.specs.Tables.{table_of_map}
use Rattle.stages_loads.proofs.TableSteps.{mapped, mapped_not}
use Rattle.stages_loads.proofs.machine.understood_map.Goals as goal

pub returns-in-Ok-clause-answer : goal.returns-in-Ok-clause-answer
returns-in-Ok-clause-answer c =
    mapped c.args.file c.args.bytes.now c.in-Ok.map
    (c.in-Ok.ensures.ok ∙ ap (stated map_line) c.as_bytes.ensures)
    (ap (refused_line map_line) (sym c.as_bytes.ensures) ∙ c.in-Ok.ensures.passed)

pub returns-in-Err-clause-answer : goal.returns-in-Err-clause-answer
returns-in-Err-clause-answer c =
    subst (λ bytes. Answers table_of_map (table_outcome c.args.file true (exports_of_map bytes))
    (Err c.stop_of_table.result)) c.as_bytes.ensures
    (mapped_not c.args.file _ c.in-Err.fault c.stop_of_table.result c.in-Err.ensures.err
    c.stop_of_table.ensures)
