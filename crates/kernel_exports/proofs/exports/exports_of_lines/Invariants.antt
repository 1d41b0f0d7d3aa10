use Rattle.std.proofs.Common.{◌≡◌, ◌≤◌, take}
use Rattle.std.specs.List.{filter_map}
use Rattle.kernel_exports.specs.KernelTable.{AreFirst, first_of_each, export_of_line}
use Rattle.kernel_exports.proofs.exports.exports_of_lines.Given as goal

abbrev pub invariant-loop-line : goal.invariant-loop-line
invariant-loop-line l = record {
  count : l.names.count ≤ l.line-index;
  first : AreFirst l.names l.list;
  list : l.list ≡ first_of_each (filter_map export_of_line (take l.line-index l.lines));
}
