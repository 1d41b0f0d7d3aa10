use Rattle.std.proofs.Common.{◌≡◌, ℕ, ◌<◌, List, length, None}
use Rattle.elf_object.specs.declared.changed.ChangedBytes.{ChangedBytes}
use Rattle.elf_object.specs.Inner.{HasRoom}
use Rattle.elf_object.specs.Overlap.{HasMarks}
use Rattle.elf_object.specs.Places.{overlap_test}
use Rattle.elf_object.proofs.shared.check_shared.Given as goal

pub record Tested (b : List ℕ) (changed : ChangedBytes) (n : ℕ) : Type 0 where
  pub tests : (k : ℕ) → k < n → overlap_test b k ≡ None
  pub marks : HasMarks changed
  pub mark : changed.mark ≡ n
  pub room : HasRoom b (length changed.marks.items)

abbrev pub invariant-loop-target : goal.invariant-loop-target
invariant-loop-target l = Tested l.sections.file l.changed l.target
