use Rattle.std.proofs.Common.{◌≡◌, map, take}
use Rattle.name_table.specs.NameTable.{IsTableOf}
use Rattle.provider_rel.specs.Items.{item_name}
use Rattle.provider_rel.proofs.items.names_of.Given as goal

abbrev pub invariant-loop-item : goal.invariant-loop-item
invariant-loop-item l = record {
  count : l.names.count ≡ l.item-index;
  is : IsTableOf l.names (map item_name (take l.item-index l.items));
}
