use Rattle.std.proofs.Common.{◌≡◌, Some, map, take}
use Rattle.name_table.specs.NameTable.{IsTableOf}
use Rattle.module_symbols.proofs.version_list.table_of.Given as goal

abbrev pub invariant-loop-version : goal.invariant-loop-version
invariant-loop-version l = record {
  count : l.names.count ≡ l.version-index;
  is : IsTableOf l.names (map (λ v. Some v.name.now) (take l.version-index l.entries));
}
