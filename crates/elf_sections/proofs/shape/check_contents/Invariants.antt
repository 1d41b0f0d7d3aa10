use Rattle.std.proofs.Common.{◌≡◌, ℕ, ◌<◌, List, None}
use Rattle.elf_sections.specs.Shape.{IsInFile, content_test, section_header}
use Rattle.elf_sections.proofs.shape.check_contents.Given as goal

pub record Passed (b : List ℕ) (n : ℕ) : Type 0 where
  pub tests : (k : ℕ) → k < n → content_test b k ≡ None
  pub within : (k : ℕ) → k < n → IsInFile b (section_header b k)

abbrev pub invariant-loop-index : goal.invariant-loop-index
invariant-loop-index l = Passed l.bytes l.index
