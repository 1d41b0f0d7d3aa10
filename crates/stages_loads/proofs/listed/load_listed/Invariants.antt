use Rattle.stages_files.specs.KernelModules.{path_listed}
use Rattle.stages_loads.proofs.ListedSteps.{AreLeft}
use Rattle.stages_loads.proofs.listed.load_listed.Given as goal

abbrev pub invariant-loop-left : goal.invariant-loop-left
invariant-loop-left g l =
    AreLeft l.folder (path_listed l.index) l.names l.fn.machine (g.F.Reads.seen l.fn.files)
    l.machine (g.F.Reads.seen l.files) l.left

abbrev pub decreases-loop-left : goal.decreases-loop-left
decreases-loop-left g l = l.left
