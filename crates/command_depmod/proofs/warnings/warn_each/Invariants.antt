use Rattle.std.proofs.Common.{drop}
use Rattle.std.specs.Prelude.{⊤}
use Rattle.outside_calls.specs.FilesSeen.{FilesSeen}
use Rattle.outside_calls.specs.OutSeen.{OutSeen}
use Rattle.km_course.specs.World.{world}
use Rattle.km_course.proofs.Steps.{LeadsTo}
use Rattle.command_depmod.specs.Warnings.{warns_each}
use Rattle.command_depmod.proofs.warnings.warn_each.Given as goal

-- Whatever warns of the other obstacles from here warns of all from the start.
abbrev pub invariant-loop-obstacle : goal.invariant-loop-obstacle
invariant-loop-obstacle g l =
    (files : FilesSeen) (out : OutSeen) → LeadsTo (λ (x : ⊤). x) (warns_each l.versions l.obstacles)
    (world files out (g.E.Out.seen l.fn.err))
    (warns_each l.versions (drop l.obstacle-index l.obstacles))
    (world files out (g.E.Out.seen l.err))
