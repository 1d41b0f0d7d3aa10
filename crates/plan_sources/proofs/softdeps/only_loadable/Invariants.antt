use Rattle.std.proofs.Common.{◌≡◌, take, filter}
use Rattle.plan_sources.specs.Sources.{modules, is_available}
use Rattle.plan_sources.specs.Planner.{sources_of}
use Rattle.plan_sources.specs.Softdeps.{KnowsAvailable}
use Rattle.plan_sources.proofs.softdeps.only_loadable.Given as goal

abbrev pub invariant-loop-y : goal.invariant-loop-y
invariant-loop-y l =
    record {
      known : KnowsAvailable (sources_of l.planner) l.known.items;
      kept : l.kept.items
          ≡ filter (is_available (modules (sources_of l.planner)) (sources_of l.planner).unmet)
          (take l.y-index l.places);
    }
