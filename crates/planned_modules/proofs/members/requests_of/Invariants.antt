use Rattle.std.proofs.Common.{◌≡◌, take, map, length}
use Rattle.relation_order.specs.Search.{Inside}
use Rattle.plan_order.specs.Lists.{items_of}
use Rattle.dependency_lines.specs.Modules.{places_of}
use Rattle.plan_sources.specs.Sources.{modules}
use Rattle.plan_sources.specs.Planner.{sources_of}
use Rattle.planned_modules.proofs.members.requests_of.Given as goal

abbrev pub invariant-loop-found : goal.invariant-loop-found
invariant-loop-found l =
    record {
      items : items_of l.requests.items
          ≡ map (λ f. places_of (modules (sources_of l.planner)) f.names)
          (take l.found-index l.founds);
      inside : Inside (length (modules (sources_of l.planner))) l.requests.items;
    }
