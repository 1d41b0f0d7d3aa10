use Rattle.std.proofs.Common.{◌≡◌, take}
use Rattle.std.specs.List.{flat_map}
use Rattle.elf_write.specs.Number.{with_nul}
use Rattle.sheet_object.proofs.content.modinfo.Given as goal

abbrev pub invariant-loop-text : goal.invariant-loop-text
invariant-loop-text l = l.content.items ≡ flat_map with_nul (take l.text-index l.texts)
