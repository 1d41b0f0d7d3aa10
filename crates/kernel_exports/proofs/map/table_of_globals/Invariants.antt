use Rattle.std.proofs.Common.{◌≡◌, map, take}
use Rattle.name_table.specs.NameTable.{IsTableOf}
use Rattle.kernel_exports.specs.MapLines.{global_name}
use Rattle.kernel_exports.proofs.map.table_of_globals.Given as goal

abbrev pub invariant-loop-line : goal.invariant-loop-line
invariant-loop-line l = record {
  count : l.table.count ≡ l.line-index;
  is : IsTableOf l.table (map global_name (take l.line-index l.lines));
}
