use Rattle.std.proofs.Common.{◌≡◌, map, take}
use Rattle.elf_object.specs.Symbols.{owned_symbol}
use Rattle.elf_object.proofs.symbol.borrowed_symbols.Given as goal

abbrev pub invariant-loop-symbol : goal.invariant-loop-symbol
invariant-loop-symbol l = map owned_symbol l.list.items ≡ take l.symbol-index l.symbols
