use Rattle.std.proofs.Common.{◌≡◌, ◌++◌, take}
use Rattle.std.specs.List.{flat_map}
use Rattle.elf_write.specs.Number.{with_nul}
use Rattle.elf_write.proofs.parts.push_names.Given as goal

abbrev pub invariant-loop-part : goal.invariant-loop-part
invariant-loop-part l =
    l.out.items ≡ l.initial.out.items ++ flat_map (λ p. with_nul p.name) (take l.part-index l.parts)
