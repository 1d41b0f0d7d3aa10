use Rattle.std.proofs.Common.{ℕ, List, ◌++◌, take}
use Rattle.plan_sources.specs.Planner.{sources_of}
use Rattle.plan_sources.specs.Kept.{texts}
use Rattle.plan_sources.specs.Softdeps.{IsSoftTable, KnowsAvailable}
use Rattle.plan_sources.proofs.softdeps.add_names.Given as goal

abbrev pub invariant-loop-name : goal.invariant-loop-name
invariant-loop-name l =
    record {
      known : KnowsAvailable (sources_of l.planner) l.known.items;
      lists : (names : List (List ℕ)) → IsSoftTable (sources_of l.planner) names l.fn.lists.entries
          → IsSoftTable (sources_of l.planner) (names ++ texts (take l.name-index l.more))
          l.lists.entries;
    }
