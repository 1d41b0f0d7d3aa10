use Rattle.std.proofs.Common.{◌≡◌, map, take}
use Rattle.elf_object.specs.Symbols.{owned_symbol}
use Rattle.elf_object.proofs.symbol.owned_symbols.Given as goal

abbrev pub invariant-loop-symbol : goal.invariant-loop-symbol
invariant-loop-symbol l = l.list.items ≡ map owned_symbol (take l.symbol-index l.symbols)
