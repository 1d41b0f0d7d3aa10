use Rattle.std.proofs.Common.{◌≡◌, ℕ, ◌<◌, ◌≤◌, List, None}
use Rattle.elf_sections.specs.declared.strings.TheConstants.{SEARCH_LIMIT}
use Rattle.elf_sections.specs.Shape.{name_test}
use Rattle.elf_sections.proofs.shape.check_names.Given as goal

pub record Passed (b : List ℕ) (left n : ℕ) : Type 0 where
  pub tests : (k : ℕ) → k < n → name_test b k ≡ None
  pub within : left ≤ SEARCH_LIMIT

abbrev pub invariant-loop-index : goal.invariant-loop-index
invariant-loop-index l = Passed l.bytes l.left l.index
