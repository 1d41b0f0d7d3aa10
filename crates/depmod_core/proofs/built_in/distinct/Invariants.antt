use Rattle.std.proofs.Common.{◌≡◌, take}
use Rattle.name_table.specs.FirstSeen.{first_seen}
use Rattle.depmod_core.proofs.built_in.distinct.Given as goal

abbrev pub invariant-loop-name : goal.invariant-loop-name
invariant-loop-name l = l.set ≡ first_seen (take l.name-index l.names)
