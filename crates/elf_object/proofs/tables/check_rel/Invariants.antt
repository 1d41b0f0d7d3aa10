use Rattle.std.proofs.Common.{◌≡◌, ℕ, ◌<◌, None}
use Rattle.elf_object.specs.Symbols.{rel_test}
use Rattle.elf_object.proofs.tables.check_rel.Given as goal

abbrev pub invariant-loop-index : goal.invariant-loop-index
invariant-loop-index l = (k : ℕ) → k < l.index → rel_test l.sections.file k ≡ None
