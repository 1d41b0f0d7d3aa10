use Rattle.std.proofs.Common.{drop}
use Rattle.std.specs.Prelude.{⊤}
use Rattle.outside_calls.specs.OutSeen.{OutSeen}
use Rattle.km_course.specs.World.{world}
use Rattle.km_course.proofs.Steps.{LeadsTo}
use Rattle.command_modinfo.specs.Modinfo.{shows_each}
use Rattle.command_modinfo.proofs.course.show_each.Given as goal

-- Whatever shows the other words from here shows all from the start.
abbrev pub invariant-loop-word : goal.invariant-loop-word
invariant-loop-word g l =
    (err : OutSeen) → LeadsTo (λ (x : ⊤). x) (shows_each l.source l.options l.words)
    (world (g.F.Reads.seen l.fn.files) (g.O.Out.seen l.fn.out) err)
    (shows_each l.source l.options (drop l.word-index l.words))
    (world (g.F.Reads.seen l.files) (g.O.Out.seen l.out) err)
