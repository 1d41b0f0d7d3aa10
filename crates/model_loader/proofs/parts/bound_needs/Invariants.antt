use Rattle.std.proofs.Common.{◌≡◌, take, map}
use Rattle.model_loader.specs.Step.{bound_need}
use Rattle.model_loader.proofs.parts.bound_needs.Given as goal

abbrev pub invariant-loop-need : goal.invariant-loop-need
invariant-loop-need l = l.copy ≡ map bound_need (take l.need-index l.needs)
