use Rattle.std.proofs.Common.{◌≡◌, ◌++◌, take}
use Rattle.plan_builder.specs.Steps.{own_steps}
use Rattle.plan_sources.specs.Planner.{sources_of}
use Rattle.plan_builder.proofs.steps.Stepping.push_own_steps.Given as goal

abbrev pub invariant-loop-name : goal.invariant-loop-name
invariant-loop-name l =
    l.steps
    ≡ l.fn.steps
    ++ own_steps (sources_of l.self.planner.now) l.self.request.now l.earlier
    (take l.name-index l.names)
