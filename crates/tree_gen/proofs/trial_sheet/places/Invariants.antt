use Rattle.std.proofs.Common.{◌≡◌, map, take}
use Rattle.tree_gen.specs.Trial.{address}
use Rattle.tree_gen.proofs.trial_sheet.places.Given as goal

abbrev pub invariant-loop-version : goal.invariant-loop-version
invariant-loop-version l = l.places ≡ map address (take l.version-index l.needed)
