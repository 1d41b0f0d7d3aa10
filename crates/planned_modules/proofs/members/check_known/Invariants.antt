use Rattle.std.proofs.Common.{◌≡◌, take, None}
use Rattle.std.specs.List.{find}
use Rattle.planned_modules.specs.Members.{is_unknown}
use Rattle.plan_sources.specs.Planner.{sources_of}
use Rattle.plan_sources.specs.Kept.{texts}
use Rattle.planned_modules.proofs.members.check_known.Given as goal

abbrev pub invariant-loop-name : goal.invariant-loop-name
invariant-loop-name l =
    find (is_unknown (sources_of l.planner) l.ignored) (texts (take l.name-index l.name-items))
    ≡ None
