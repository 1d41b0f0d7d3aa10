use Rattle.std.proofs.Common.{◌≡◌, ◌++◌, drop}
use Rattle.command_modprobe.specs.Planned.{plan_lines}
use Rattle.command_modprobe.proofs.plan.plan_text.Given as goal

abbrev pub invariant-loop-step : goal.invariant-loop-step
invariant-loop-step l =
    l.text ++ plan_lines l.folder (drop l.step-index l.steps) ≡ plan_lines l.folder l.steps
