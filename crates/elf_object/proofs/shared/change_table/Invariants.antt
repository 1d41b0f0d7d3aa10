use Rattle.std.proofs.Common.{◌≡◌, ℕ, ◌++◌, List, length, map}
use Rattle.std.specs.List.{range_with_len}
use Rattle.elf_object.specs.declared.place.RelaPlace.{RelaPlace}
use Rattle.elf_object.specs.declared.changed.ChangedBytes.{ChangedBytes}
use Rattle.elf_sections.specs.Sections.{section_of}
use Rattle.elf_object.specs.Overlap.{HasChanged, changes_at}
use Rattle.elf_object.specs.Places.{place_of}
use Rattle.elf_object.proofs.shared.change_table.Given as goal

pub record Changing (b : List ℕ) (i : ℕ) (old now : ChangedBytes) (n : ℕ) : Type 0 where
  pub changed : (before : List RelaPlace)
      → HasChanged old (changes_at (section_of b i).info before)
      → HasChanged now
      (changes_at (section_of b i).info (before ++ map (place_of b i) (range_with_len 0 n)))
  pub mark : now.mark ≡ old.mark
  pub size : length now.marks.items ≡ length old.marks.items

abbrev pub invariant-loop-entry : goal.invariant-loop-entry
invariant-loop-entry l = Changing l.sections.file l.index l.initial.changed l.changed l.entry
