use Rattle.std.proofs.Common.{ℕ, ◌+◌, ◌*◌, ◌≤◌, take, fold}
use Rattle.elf_write.specs.File.{Laid, with_part}
use Rattle.elf_write.specs.Writing.{IsFileOf}
use Rattle.elf_write.proofs.file.ObjectFile.push_all.Given as goal

abbrev pub invariant-loop-part : goal.invariant-loop-part
invariant-loop-part l = record {
  short : l.self.names ≤ 1 + 33 * l.part-index;
  file : (m : Laid) (count named : ℕ) → IsFileOf l.initial.self m count named
      → IsFileOf l.self (fold with_part m (take l.part-index l.parts)) count named;
}
