use Rattle.std.proofs.Common.{◌≡◌, map}
use Rattle.std.specs.List.{range_with_len}
use Rattle.elf_sections.specs.Sections.{section_of}
use Rattle.elf_sections.proofs.shape.owned_sections.Given as goal

abbrev pub invariant-loop-index : goal.invariant-loop-index
invariant-loop-index l = l.sections.items ≡ map (section_of l.bytes) (range_with_len 0 l.index)
