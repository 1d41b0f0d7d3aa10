use Rattle.std.proofs.Common.{◌≡◌, take}
use Rattle.name_table.specs.NameTable.{IsTableOf}
use Rattle.model_loader.specs.Uses.{stated_names}
use Rattle.model_loader.proofs.uses.places_of.Given as goal

abbrev pub invariant-loop-entry : goal.invariant-loop-entry
invariant-loop-entry l = record {
  table : IsTableOf l.places (stated_names (take l.entry-index l.entries));
  count : l.places.count ≡ l.entry-index;
}
