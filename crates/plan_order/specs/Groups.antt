-- What the code keeps between groups: all that was found is listed, and with each module what comes
-- before it.
-- It belongs to the code: no public meaning rests on it.
use Rattle.std.specs.Prelude.{ℕ, List, true, ◌≡◌, length}
use Rattle.relation_order.specs.Sets.{Relation, has}
use Rattle.relation_order.specs.Search.{Marks}
use Rattle.relation_order.specs.Placing.{Closed}
use Rattle.plan_order.specs.declared.groups.Groups.{Groups}

pub record Whole (r : Relation) (set : List ℕ) (n : ℕ) (g : Groups) : Type 0 where
  pub marks : Marks g.found.items g.seen.items
  pub long : length g.seen.items ≡ n
  pub listed : (y : ℕ) → has g.found.items y ≡ has g.order.items y
  pub within : (y : ℕ) → has g.order.items y ≡ true → has set y ≡ true
  pub closed : Closed r set g.order.items
