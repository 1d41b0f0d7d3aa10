use Rattle.std.proofs.Common.{◌≡◌, map, take}
use Rattle.remove_plan.specs.Marks.{is_marked}
use Rattle.remove_plan.specs.Steps.{remove_step}
use Rattle.remove_plan.proofs.plan.steps.Given as goal

abbrev pub invariant-loop-k : goal.invariant-loop-k
invariant-loop-k l =
    l.plan
    ≡ map (remove_step l.machine l.choice.rules.now l.choice.ignored (is_marked l.asked))
    (take l.k-index l.going)
