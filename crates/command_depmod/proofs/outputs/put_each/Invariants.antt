use Rattle.std.proofs.Common.{drop}
use Rattle.std.specs.Prelude.{⊤}
use Rattle.outside_calls.specs.OutSeen.{OutSeen}
use Rattle.km_course.specs.World.{world}
use Rattle.km_course.proofs.Steps.{LeadsTo}
use Rattle.command_depmod.specs.Outputs.{puts_each}
use Rattle.command_depmod.proofs.outputs.put_each.Given as goal

-- Whatever puts the other files from here puts all from the start.
abbrev pub invariant-loop-file : goal.invariant-loop-file
invariant-loop-file g l =
    (out err : OutSeen) → LeadsTo (λ (x : ⊤). x) (puts_each l.folder l.made l.which)
    (world (g.F.Reads.seen l.fn.files) out err)
    (puts_each l.folder l.made (drop l.file-index l.which))
    (world (g.F.Reads.seen l.files) out err)
