use Rattle.std.proofs.Common.{◌≡◌, drop}
use Rattle.command_remove.specs.Remove.{first_owner}
use Rattle.command_remove.proofs.plan.first_owner.Given as goal

-- No step so far runs a command.
abbrev pub invariant-loop-step : goal.invariant-loop-step
invariant-loop-step l = first_owner (drop l.step-index l.steps) ≡ first_owner l.steps
