use Rattle.std.proofs.Common.{◌≡◌, take}
use Rattle.tree_gen.specs.Trial.{needed}
use Rattle.tree_gen.proofs.trial_sheet.needed.Given as goal

abbrev pub invariant-loop-drawn : goal.invariant-loop-drawn
invariant-loop-drawn l = l.versions ≡ needed (take l.drawn-index l.modules)
