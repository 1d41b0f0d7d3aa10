use Rattle.std.proofs.Common.{take}
use Rattle.module_symbols.specs.SymbolTables.{AreTablesOf}
use Rattle.module_symbols.proofs.tables.SymbolTables.new.Given as goal

abbrev pub invariant-loop-i : goal.invariant-loop-i
invariant-loop-i l = AreTablesOf l.tables (take l.i l.object.symbols)
