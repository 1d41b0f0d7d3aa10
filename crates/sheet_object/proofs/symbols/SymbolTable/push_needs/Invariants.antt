use Rattle.std.proofs.Common.{◌≤◌, ◌+◌, ◌*◌, take, map, length}
use Rattle.sheet_object.specs.Symbols.{need_symbol}
use Rattle.sheet_object.specs.Writing.{Adds}
use Rattle.sheet_object.proofs.symbols.SymbolTable.push_needs.Given as goal

abbrev pub invariant-loop-need : goal.invariant-loop-need
invariant-loop-need l = record {
  added : Adds l.initial.self l.self (map need_symbol (take l.need-index l.needs));
  bound : length l.self.names.items ≤ length l.initial.self.names.items + 4097 * l.need-index;
}
