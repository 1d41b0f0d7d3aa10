use Rattle.std.proofs.Common.{◌≡◌, map, take}
use Rattle.provider_rel.specs.Faces.{modules_of}
use Rattle.provider_rel.specs.Relation.{name_at}
use Rattle.provider_rel.proofs.relation.names_at.Given as goal

abbrev pub invariant-loop-place : goal.invariant-loop-place
invariant-loop-place l = l.names ≡ map (name_at (modules_of l.tree)) (take l.place-index l.places)
