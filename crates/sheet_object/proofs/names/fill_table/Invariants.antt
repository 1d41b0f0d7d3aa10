use Rattle.std.proofs.Common.{◌≡◌, map, take, Some}
use Rattle.name_table.specs.NameTable.{IsTableOf}
use Rattle.sheet_object.proofs.names.fill_table.Given as goal

abbrev pub invariant-loop-item : goal.invariant-loop-item
invariant-loop-item g l = record {
  count : l.table.count ≡ l.item-index;
  is : IsTableOf l.table (map (λ n. Some n) (map g.T.Named.name (take l.item-index l.items)));
}
