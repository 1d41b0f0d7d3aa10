use Rattle.std.proofs.Common.{◌≡◌, take, None}
use Rattle.std.specs.List.{find}
use Rattle.planned_modules.specs.Members.{founds_of, is_unfound}
use Rattle.plan_sources.specs.Planner.{sources_of}
use Rattle.planned_modules.proofs.members.find_each.Given as goal

abbrev pub invariant-loop-name : goal.invariant-loop-name
invariant-loop-name l =
    record {
      founds : l.founds.items ≡ founds_of (sources_of l.planner) (take l.name-index l.names);
      passed : find (is_unfound (sources_of l.planner)) (take l.name-index l.names) ≡ None;
    }
