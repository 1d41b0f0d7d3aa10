use Rattle.std.proofs.Common.{◌≡◌, map}
use Rattle.std.specs.List.{range_with_len}
use Rattle.elf_sections.specs.Sections.{owned_section, section_of}
use Rattle.elf_sections.proofs.shape.section_table.Given as goal

abbrev pub invariant-loop-index : goal.invariant-loop-index
invariant-loop-index l =
    map owned_section l.sections.items ≡ map (section_of l.bytes) (range_with_len 0 l.index)
