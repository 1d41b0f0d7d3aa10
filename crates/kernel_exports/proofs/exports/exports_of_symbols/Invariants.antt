use Rattle.std.proofs.Common.{◌≡◌, ◌≤◌, take}
use Rattle.std.specs.List.{filter_map}
use Rattle.kernel_exports.specs.KernelTable.{AreFirst, first_of_each, with_addresses}
use Rattle.kernel_exports.specs.KernelTable.{export_of_symbol}
use Rattle.kernel_exports.proofs.exports.exports_of_symbols.Given as goal

abbrev pub invariant-loop-symbol : goal.invariant-loop-symbol
invariant-loop-symbol l = record {
  count : l.names.count ≤ l.symbol-index;
  first : AreFirst l.names l.list;
  list : l.list
      ≡ with_addresses l.symbols
      (first_of_each (filter_map export_of_symbol (take l.symbol-index l.lines)));
}
