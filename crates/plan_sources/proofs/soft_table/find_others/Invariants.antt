use Rattle.std.proofs.Common.{◌≡◌, ◌==◌, take, filter, not}
use Rattle.relation_order.specs.Search.{with_items}
use Rattle.plan_sources.proofs.soft_table.find_others.Given as goal

abbrev pub invariant-loop-y : goal.invariant-loop-y
invariant-loop-y l =
    l.found.keys
    ≡ with_items l.fn.found.keys (filter (λ y. not (y == l.place)) (take l.y-index l.places))
