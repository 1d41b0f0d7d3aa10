use Rattle.std.proofs.Common.{take}
use Rattle.depmod_core.specs.Making.{AreMade}
use Rattle.depmod_core.proofs.making.Making.make_each.Given as goal

abbrev pub invariant-loop-file : goal.invariant-loop-file
invariant-loop-file l = AreMade l.self l.initial.made l.made (take l.file-index l.which)
