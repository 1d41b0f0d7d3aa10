use Rattle.std.proofs.Common.{◌≡◌, ℕ, ◌+◌, length}
use Rattle.elf_object.specs.declared.changed.ChangedBytes.{ChangedBytes}
use Rattle.elf_object.specs.Overlap.{HasChanged, count_between}
use Rattle.elf_object.proofs.changed.ChangedBytes.change.Given as goal

pub record Changing (old now : ChangedBytes) (low at : ℕ) : Type 0 where
  pub changed : (count : ℕ → ℕ) → HasChanged old count
      → HasChanged now (λ x. count x + count_between low at x)
  pub mark : now.mark ≡ old.mark
  pub size : length now.marks.items ≡ length old.marks.items

abbrev pub invariant-loop-at : goal.invariant-loop-at
invariant-loop-at l = Changing l.initial.self l.self l.offset l.at
