use Rattle.std.proofs.Common.{◌≡◌, ℕ, ◌<◌, false, Some}
use Rattle.std.specs.List.{slice_get}
use Rattle.std.specs.Str.{bytes_eq}
use Rattle.elf_sections.specs.declared.section.Section.{Section}
use Rattle.elf_sections.proofs.section_table.SectionTable.section_named.Given as goal

abbrev pub invariant-loop-i : goal.invariant-loop-i
invariant-loop-i l =
    (k : ℕ) (s : Section) → k < l.i → slice_get l.self.list k ≡ Some s
    → bytes_eq s.name l.name ≡ false
