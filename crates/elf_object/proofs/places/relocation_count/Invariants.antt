use Rattle.std.proofs.Common.{◌≤◌}
use Rattle.elf_object.proofs.places.relocation_count.Given as goal

abbrev pub invariant-loop-index : goal.invariant-loop-index
invariant-loop-index l = l.left ≤ l.limit
