use Rattle.std.specs.Prelude.{Ok, Err, true}
use Rattle.std.proofs.lemmas.Result.{err_from_is_err_and}
use Rattle.kernel_exports.specs.KernelTable.{exports_of_map, exports_with_addresses}
use Rattle.km_course.proofs.Steps.{next, exits, answered, wants}
use Rattle.stages_files.specs.KernelTable.{table_of, table_outcome}
use Rattle.stages_loads.specs.Tables.{table_of_map}
use Rattle.stages_loads.proofs.TableSteps.{addressed, both_read, both_understood, both_added}
use Rattle.stages_loads.proofs.machine.read_both.Goals as goal

pub returns-in_err-bytes : goal.returns-in_err-bytes
returns-in_err-bytes g c = λ out err.
    let p = err_from_is_err_and c.from_residual.result c.from_residual.ensures.1 in
    exits _ _ (both_read c.args.system_map c.args.symvers) p.1 p.2
    (c.in_err-bytes.ensures.follows out err)

pub returns-in_err-map : goal.returns-in_err-map
returns-in_err-map g c = λ out err.
    let p
    = err_from_is_err_and c.from_residual-in_err-map.result c.from_residual-in_err-map.ensures.1
    in
    let map = c.args.system_map in
    let bytes = c.in_ok-bytes.bytes in
    next (both_read map c.args.symvers) (c.in_ok-bytes.ensures.follows out err)
    (exits _ _ (both_understood map c.args.symvers bytes) p.1 p.2
    (answered table_of_map (table_outcome map true (exports_of_map bytes)) _ (Err _)
    c.in_err-map.ensures.answer))

pub returns-in_err-kernel : goal.returns-in_err-kernel
returns-in_err-kernel g c = λ out err.
    let p
    = err_from_is_err_and c.from_residual-in_err-kernel.result
    c.from_residual-in_err-kernel.ensures.1 in
    let map = c.args.system_map in
    let bytes = c.in_ok-bytes.bytes in
    next (both_read map c.args.symvers) (c.in_ok-bytes.ensures.follows out err)
    (next (both_understood map c.args.symvers bytes)
    (answered table_of_map (table_outcome map true (exports_of_map bytes)) _ (Ok c.in_ok-map.map)
    c.in_ok-map.ensures.answer)
    (exits _ _ (both_added map bytes) p.1 p.2 (c.in_err-kernel.ensures out err)))

pub returns-in_err-set_addresses : goal.returns-in_err-set_addresses
returns-in_err-set_addresses g c = λ out err.
    let p
    = err_from_is_err_and c.from_residual-in_err-set_addresses.result
    c.from_residual-in_err-set_addresses.ensures.1 in
    let map = c.args.system_map in
    let bytes = c.in_ok-bytes.bytes in
    next (both_read map c.args.symvers) (c.in_ok-bytes.ensures.follows out err)
    (next (both_understood map c.args.symvers bytes)
    (answered table_of_map (table_outcome map true (exports_of_map bytes)) _ (Ok c.in_ok-map.map)
    c.in_ok-map.ensures.answer)
    (next (both_added map bytes) (c.in_ok-kernel.ensures out err) (wants _ _ _ _ p.1 p.2)))

pub returns : goal.returns
returns g c = λ out err.
    let map = c.args.system_map in
    let bytes = c.in_ok-bytes.bytes in
    let exported = c.in_ok-kernel.kernel in
    let kernel = c.set_addresses.new.self in
    let outcome
    = table_outcome map exported.known (exports_with_addresses bytes exported.exports) in
    next (both_read map c.args.symvers) (c.in_ok-bytes.ensures.follows out err)
    (next (both_understood map c.args.symvers bytes)
    (answered table_of_map (table_outcome map true (exports_of_map bytes)) _ (Ok c.in_ok-map.map)
    c.in_ok-map.ensures.answer)
    (next (both_added map bytes) (c.in_ok-kernel.ensures out err)
    (answered table_of outcome _ (Ok kernel)
    (addressed map bytes c.in_ok-map.map exported kernel c.in_ok-map.ensures.symbols
    c.in_ok-map.ensures.passed c.in_ok-set_addresses.ensures.known
    c.in_ok-set_addresses.ensures.exports))))
