use Rattle.std.proofs.Common.{take}
use Rattle.name_lookup.specs.Aliases.{IsAliasTable}
use Rattle.name_lookup.proofs.aliases.AliasTable.new.Given as goal

abbrev pub invariant-loop-place : goal.invariant-loop-place
invariant-loop-place l = IsAliasTable l.table (take l.place l.rules)
