use Rattle.std.proofs.Common.{◌≡◌, true, map, take, Some}
use Rattle.name_table.specs.NameTable.{IsTableOf}
use Rattle.sheet_object.specs.Sheet.{are_distinct}
use Rattle.sheet_object.proofs.conditions.are_new.Given as goal

abbrev pub invariant-loop-item : goal.invariant-loop-item
invariant-loop-item g l = record {
  count : l.seen.count ≡ l.item-index;
  is : IsTableOf l.seen (map (λ n. Some n) (map g.T.Named.name (take l.item-index l.items)));
  distinct : are_distinct (map g.T.Named.name (take l.item-index l.items)) ≡ true;
}
