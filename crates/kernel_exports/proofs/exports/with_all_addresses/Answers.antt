use Rattle.std.proofs.Common.{length, sym, ap, subst, ◌∙◌, arith}
use Rattle.std.proofs.lemmas.List.{take_all}
use Rattle.kernel_exports.specs.KernelTable.{IsTable, with_addresses}
use Rattle.kernel_exports.proofs.ExportSteps.{addresses-apart}
use Rattle.kernel_exports.proofs.exports.with_all_addresses.Goals as goal

pub returns-clause-table : goal.returns-clause-table
returns-clause-table c =
    let symbols = c.args.symbols.now in
    let all
    = take_all c.loop-export.export-index c.args.exports.now
    (omega (arith, c.loop-export-test.false, ap length c.as_slice-export-items.ensures)) in
    subst IsTable (sym (c.loop-export.invariant ∙ ap (with_addresses symbols) all))
    (addresses-apart symbols c.args.exports.now c.requires)
