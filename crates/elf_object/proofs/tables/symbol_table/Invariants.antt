use Rattle.std.proofs.Common.{◌≡◌, ℕ, ◌<◌, ◌==◌, false}
use Rattle.elf_format.specs.declared.section.TheConstants.{SHT_SYMTAB}
use Rattle.elf_sections.specs.Sections.{section_of}
use Rattle.elf_object.proofs.tables.symbol_table.Given as goal

abbrev pub invariant-loop-index : goal.invariant-loop-index
invariant-loop-index l =
    (k : ℕ) → k < l.index → ((section_of l.sections.file k).kind == SHT_SYMTAB) ≡ false
