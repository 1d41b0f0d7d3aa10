use Rattle.std.proofs.Common.{◌≡◌, map, take}
use Rattle.km_names.specs.declared.conf.TreeIndex.{TreeIndex}
use Rattle.provider_rel.proofs.relation.order_of.Given as goal

abbrev pub invariant-loop-place : goal.invariant-loop-place
invariant-loop-place l = map (λ (i : TreeIndex). i.0) l.order ≡ take l.place-index l.places
