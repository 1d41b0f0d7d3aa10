use Rattle.std.proofs.Common.{◌≡◌, map, take}
use Rattle.tree_gen.specs.Trial.{strong}
use Rattle.tree_gen.proofs.trial_sheet.needs.Given as goal

abbrev pub invariant-loop-version : goal.invariant-loop-version
invariant-loop-version l = l.needs ≡ map strong (take l.version-index l.needed)
