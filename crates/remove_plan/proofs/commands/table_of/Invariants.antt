use Rattle.std.proofs.Common.{◌≡◌, map, take}
use Rattle.name_table.specs.NameTable.{IsTableOf}
use Rattle.remove_plan.specs.Steps.{removed_name}
use Rattle.remove_plan.proofs.commands.table_of.Given as goal

abbrev pub invariant-loop-rule : goal.invariant-loop-rule
invariant-loop-rule l = record {
  table : IsTableOf l.table (map removed_name (take l.rule-index l.rules));
  count : l.table.count ≡ l.rule-index;
}
