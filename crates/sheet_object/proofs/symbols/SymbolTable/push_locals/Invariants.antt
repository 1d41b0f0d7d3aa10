use Rattle.std.proofs.Common.{◌≤◌, ◌+◌, ◌*◌, take, length}
use Rattle.std.specs.List.{flat_map}
use Rattle.sheet_object.specs.Symbols.{local_symbols}
use Rattle.sheet_object.specs.Writing.{Adds}
use Rattle.sheet_object.proofs.symbols.SymbolTable.push_locals.Given as goal

abbrev pub invariant-loop-export : goal.invariant-loop-export
invariant-loop-export l = record {
  added : Adds l.initial.self l.self
      (flat_map (local_symbols l.further.more.now) (take l.export-index l.exports));
  bound : length l.self.names.items ≤ length l.initial.self.names.items + 12319 * l.export-index;
}
