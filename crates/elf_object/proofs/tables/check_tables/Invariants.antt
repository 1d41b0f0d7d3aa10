use Rattle.std.proofs.Common.{◌≡◌, ℕ, ◌<◌, true}
use Rattle.elf_object.specs.Symbols.{is_good_table}
use Rattle.elf_object.proofs.tables.check_tables.Given as goal

abbrev pub invariant-loop-index : goal.invariant-loop-index
invariant-loop-index l = (k : ℕ) → k < l.index → is_good_table l.sections.file k ≡ true
