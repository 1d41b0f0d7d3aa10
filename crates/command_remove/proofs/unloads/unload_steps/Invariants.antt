use Rattle.std.proofs.Common.{drop}
use Rattle.std.specs.Prelude.{⊤}
use Rattle.outside_calls.specs.FilesSeen.{FilesSeen}
use Rattle.outside_calls.specs.OutSeen.{OutSeen}
use Rattle.model_loader.specs.Machine.{Machine}
use Rattle.km_course.specs.Course.{each_from}
use Rattle.km_course.specs.World.{world}
use Rattle.km_course.proofs.Steps.{LeadsTo}
use Rattle.command_remove.specs.Remove.{unloads_one}
use Rattle.command_remove.specs.Taken.{CanBeTakenOut}
use Rattle.command_remove.proofs.unloads.unload_steps.Given as goal

-- The modules of the steps that are left can be taken out of the machine of this turn, and that
-- leads on to what taking out all of them from the start does, whatever machine is left.
abbrev pub invariant-loop-step : goal.invariant-loop-step
invariant-loop-step g l = record {
  leads : (files : FilesSeen) (err : OutSeen) (left : Machine)
      → LeadsTo (λ (done : ⊤). left) (each_from unloads_one l.fn.machine l.steps)
      (world files (g.O.Out.seen l.fn.out) err)
      (each_from unloads_one l.machine (drop l.step-index l.steps))
      (world files (g.O.Out.seen l.out) err);
  rest : CanBeTakenOut l.machine l.end (drop l.step-index l.steps);
}
