use Rattle.std.proofs.Common.{◌≡◌, ℕ, ◌<◌, None}
use Rattle.elf_object.specs.Places.{align_test}
use Rattle.elf_object.proofs.places.check_alignments.Given as goal

abbrev pub invariant-loop-index : goal.invariant-loop-index
invariant-loop-index l = (k : ℕ) → k < l.index → align_test l.sections.file k ≡ None
