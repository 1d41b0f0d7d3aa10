use Rattle.std.proofs.Common.{◌≡◌, take}
use Rattle.std.specs.List.{flat_map}
use Rattle.elf_write.specs.Params.{type_text}
use Rattle.elf_write.proofs.params.type_texts.Given as goal

abbrev pub invariant-loop-param : goal.invariant-loop-param
invariant-loop-param l = l.texts.items ≡ flat_map type_text (take l.param-index l.params)
