use Rattle.std.proofs.Common.{◌≡◌, map, take}
use Rattle.elf_object.specs.Inner.{unkept_flags}
use Rattle.elf_sections.specs.Sections.{owned_section}
use Rattle.elf_object.specs.Symbols.{owned_symbol}
use Rattle.elf_object.proofs.place.unkept_symbols.Given as goal

abbrev pub invariant-loop-symbol : goal.invariant-loop-symbol
invariant-loop-symbol l =
    l.flags.items
    ≡ unkept_flags (map owned_section l.sections)
    (map owned_symbol (take l.symbol-index l.symbols))
