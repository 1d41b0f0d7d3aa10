use Rattle.stages_loads.proofs.ListedSteps.{AreLeft}
use Rattle.command_remove.proofs.listed.take_listed.Given as goal
use Rattle.command_remove.specs.Listed.{well_formed_path}

abbrev pub invariant-loop-left : goal.invariant-loop-left
invariant-loop-left g l =
    AreLeft l.folder (well_formed_path l.indexes) l.names l.fn.machine (g.F.Reads.seen l.fn.files)
    l.machine (g.F.Reads.seen l.files) l.left

abbrev pub decreases-loop-left : goal.decreases-loop-left
decreases-loop-left g l = l.left
