use Rattle.std.proofs.Common.{◌≡◌, ◌++◌, drop}
use Rattle.command_remove.specs.Lines.{step_lines}
use Rattle.command_remove.proofs.lines.step_lines.Given as goal

abbrev pub invariant-loop-step : goal.invariant-loop-step
invariant-loop-step l = l.text ++ step_lines (drop l.step-index l.steps) ≡ step_lines l.steps
