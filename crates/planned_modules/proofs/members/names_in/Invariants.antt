use Rattle.std.proofs.Common.{◌≡◌, take}
use Rattle.planned_modules.specs.Members.{all_names}
use Rattle.plan_sources.specs.Kept.{texts}
use Rattle.planned_modules.proofs.members.names_in.Given as goal

abbrev pub invariant-loop-found : goal.invariant-loop-found
invariant-loop-found l = texts l.names.items ≡ all_names (take l.found-index l.founds)
