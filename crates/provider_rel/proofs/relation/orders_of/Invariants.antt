use Rattle.std.proofs.Common.{◌≡◌, map, take}
use Rattle.km_names.specs.declared.conf.TreeIndex.{TreeIndex}
use Rattle.provider_rel.proofs.relation.orders_of.Given as goal

abbrev pub invariant-loop-x : goal.invariant-loop-x
invariant-loop-x l = map (map (λ (i : TreeIndex). i.0)) l.orders.items ≡ take l.x l.closures
