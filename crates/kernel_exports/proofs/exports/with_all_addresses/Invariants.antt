use Rattle.std.proofs.Common.{◌≡◌, take}
use Rattle.kernel_exports.specs.KernelTable.{with_addresses}
use Rattle.kernel_exports.proofs.exports.with_all_addresses.Given as goal

abbrev pub invariant-loop-export : goal.invariant-loop-export
invariant-loop-export l = l.list ≡ with_addresses l.symbols (take l.export-index l.exports)
