use Rattle.std.proofs.Common.{◌≡◌, ◌++◌, take, map}
use Rattle.plan_builder.specs.Steps.{module_step}
use Rattle.plan_sources.specs.Planner.{sources_of}
use Rattle.plan_builder.proofs.steps.Stepping.push_modules.Given as goal

abbrev pub invariant-loop-place : goal.invariant-loop-place
invariant-loop-place l =
    l.steps
    ≡ l.fn.steps
    ++ map (module_step (sources_of l.self.planner.now) l.self.request.now)
    (take l.place-index l.places)
