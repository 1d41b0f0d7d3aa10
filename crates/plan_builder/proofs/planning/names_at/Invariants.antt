use Rattle.std.proofs.Common.{◌≡◌, take, map}
use Rattle.dependency_lines.specs.Modules.{name_at}
use Rattle.plan_builder.proofs.planning.names_at.Given as goal

abbrev pub invariant-loop-place : goal.invariant-loop-place
invariant-loop-place l = l.names ≡ map (name_at l.modules) (take l.place-index l.places)
