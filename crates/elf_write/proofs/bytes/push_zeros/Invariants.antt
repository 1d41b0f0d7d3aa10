use Rattle.std.proofs.Common.{◌≡◌, ◌++◌}
use Rattle.elf_write.specs.Number.{zeros}
use Rattle.elf_write.proofs.bytes.push_zeros.Given as goal

abbrev pub invariant-loop-index : goal.invariant-loop-index
invariant-loop-index l = l.out.items ≡ l.initial.out.items ++ zeros l._index
