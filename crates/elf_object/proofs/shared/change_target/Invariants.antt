use Rattle.std.proofs.Common.{◌≡◌, ℕ, ◌+◌, ◌-◌, List, length}
use Rattle.elf_object.specs.declared.changed.ChangedBytes.{ChangedBytes}
use Rattle.elf_sections.specs.Shape.{section_count}
use Rattle.elf_object.specs.Inner.{IsNextTable}
use Rattle.elf_object.specs.Overlap.{HasChanged, changes_at}
use Rattle.elf_object.proofs.TargetLemmas.{places_up_to}
use Rattle.elf_object.proofs.shared.change_target.Given as goal

pub record Changing (b : List ℕ) (t : ℕ) (old now : ChangedBytes) (n : ℕ) : Type 0 where
  pub next : IsNextTable b t n n
  pub changed : HasChanged now (changes_at t (places_up_to b n))
  pub mark : now.mark ≡ t + 1
  pub size : length now.marks.items ≡ length old.marks.items

abbrev pub invariant-loop-table : goal.invariant-loop-table
invariant-loop-table l = Changing l.sections.file l.target l.initial.changed l.changed l.table

abbrev pub decreases-loop-table : goal.decreases-loop-table
decreases-loop-table l = section_count l.sections.file - l.table
