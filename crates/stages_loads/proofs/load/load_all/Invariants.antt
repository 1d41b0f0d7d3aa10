use Rattle.std.proofs.Common.{drop}
use Rattle.outside_calls.specs.OutSeen.{OutSeen}
use Rattle.model_loader.specs.Machine.{Machine}
use Rattle.km_course.specs.World.{world}
use Rattle.km_course.proofs.Steps.{LeadsTo}
use Rattle.stages_loads.specs.Loads.{loads_all}
use Rattle.stages_loads.proofs.load.load_all.Given as goal

-- Whatever loads the other modules from here loads all from the start.
abbrev pub invariant-loop-insert : goal.invariant-loop-insert
invariant-loop-insert g l =
    (err : OutSeen)
    → LeadsTo (λ (x : Machine). x) (loads_all l.folder l.images l.fn.machine l.inserts)
    (world (g.F.Reads.seen l.fn.files) (g.O.Out.seen l.fn.out) err)
    (loads_all l.folder l.images l.machine (drop l.insert-index l.inserts))
    (world (g.F.Reads.seen l.files) (g.O.Out.seen l.out) err)
