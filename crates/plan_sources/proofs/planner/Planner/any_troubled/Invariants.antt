use Rattle.std.proofs.Common.{◌≡◌, take, false}
use Rattle.std.specs.List.{list_any}
use Rattle.dependency_lines.specs.Modules.{path_at}
use Rattle.plan_sources.specs.Sources.{modules, is_troubled}
use Rattle.plan_sources.specs.Planner.{sources_of}
use Rattle.plan_sources.proofs.planner.Planner.any_troubled.Given as goal

abbrev pub invariant-loop-y : goal.invariant-loop-y
invariant-loop-y l =
    list_any (λ y. is_troubled (sources_of l.self).unmet (path_at (modules (sources_of l.self)) y))
    (take l.y-index l.places)
    ≡ false
