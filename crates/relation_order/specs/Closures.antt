-- What walks reach from each of the items below a number.
use Rattle.std.specs.Prelude.{ℕ, List, map}
use Rattle.relation_order.specs.Sets.{Relation, below}
use Rattle.relation_order.specs.Reached.{reached}
use Rattle.relation_order.specs.Least.{least_order}

-- The closure of an item: the items that walks within the set reach from it, in the least order.
abbrev pub closure : Relation → List ℕ → ℕ → List ℕ
closure r set x = least_order r (reached r set x)

-- The closures of the items below a number, in the order of the items.
abbrev pub closures : Relation → ℕ → List (List ℕ)
closures r count = map (closure r (below count)) (below count)
