use Rattle.std.proofs.Common.{◌≤◌, ◌+◌, ◌*◌, take, length}
use Rattle.sheet_object.specs.Symbols.{export_symbols}
use Rattle.sheet_object.specs.Writing.{Adds}
use Rattle.sheet_object.proofs.symbols.SymbolTable.push_exports.Given as goal

abbrev pub invariant-loop-j : goal.invariant-loop-j
invariant-loop-j l = record {
  added : Adds l.initial.self l.self (export_symbols 0 (take l.j l.exports));
  bound : length l.self.names.items ≤ length l.initial.self.names.items + 4097 * l.j;
}
