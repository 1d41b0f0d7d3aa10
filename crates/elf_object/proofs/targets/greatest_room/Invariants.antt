use Rattle.std.proofs.Common.{◌≡◌, ℕ, ◌<◌, ◌≤◌, true}
use Rattle.elf_sections.specs.Sections.{section_of}
use Rattle.elf_object.specs.Places.{is_applied, room_in}
use Rattle.elf_object.proofs.targets.greatest_room.Given as goal

abbrev pub invariant-loop-index : goal.invariant-loop-index
invariant-loop-index l =
    (i : ℕ) → i < l.index → is_applied l.sections.file i ≡ true
    → room_in (section_of l.sections.file (section_of l.sections.file i).info) ≤ l.greatest
