use Rattle.std.specs.Prelude.{true}
use Rattle.std.proofs.lemmas.Result.{err_from_is_err_and}
use Rattle.kernel_exports.specs.KernelTable.{exports_of_map}
use Rattle.km_course.proofs.Steps.{next, exits, answered}
use Rattle.stages_files.specs.KernelTable.{table_of, table_outcome}
use Rattle.stages_files.proofs.TableSteps.{map_read}
use Rattle.stages_files.proofs.kernel_table.read_map.Goals as goal

pub returns-in_err-bytes : goal.returns-in_err-bytes
returns-in_err-bytes g c = λ out err.
    let p = err_from_is_err_and c.from_residual.result c.from_residual.ensures.1 in
    exits _ _ (map_read c.args.file) p.1 p.2 (c.in_err-bytes.ensures.follows out err)

pub returns : goal.returns
returns g c = λ out err.
    next (map_read c.args.file) (c.in_ok-bytes.ensures.follows out err)
    (answered table_of (table_outcome c.args.file true (exports_of_map c.in_ok-bytes.bytes)) _
    c.map_table.result c.map_table.ensures)
