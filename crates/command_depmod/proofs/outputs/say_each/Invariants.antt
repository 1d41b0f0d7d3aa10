use Rattle.std.proofs.Common.{drop}
use Rattle.std.specs.Prelude.{⊤}
use Rattle.outside_calls.specs.FilesSeen.{FilesSeen}
use Rattle.outside_calls.specs.OutSeen.{OutSeen}
use Rattle.km_course.specs.World.{world}
use Rattle.km_course.proofs.Steps.{LeadsTo}
use Rattle.command_depmod.specs.Outputs.{says_each}
use Rattle.command_depmod.proofs.outputs.say_each.Given as goal

-- Whatever writes the other files from here writes all from the start.
abbrev pub invariant-loop-file : goal.invariant-loop-file
invariant-loop-file g l =
    (files : FilesSeen) (err : OutSeen) → LeadsTo (λ (x : ⊤). x) (says_each l.made l.which)
    (world files (g.O.Out.seen l.fn.out) err)
    (says_each l.made (drop l.file-index l.which))
    (world files (g.O.Out.seen l.out) err)
