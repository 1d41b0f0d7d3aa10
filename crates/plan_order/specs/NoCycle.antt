-- Requests that lead to no cycle, as the code passes that on.
-- It belongs to the code: no public meaning rests on it.
use Rattle.std.specs.Prelude.{ℕ, List, [], true, ◌≡◌}
use Rattle.relation_order.specs.Sets.{Relation, has}
use Rattle.relation_order.specs.Cycle.{cycle}
use Rattle.plan_order.specs.Plan.{requested}

-- A part of the set without a cycle. It has what is requested, and with each member what comes
-- before it.
pub record NoCycle (r : Relation) (set : List ℕ) (requests : List (List ℕ)) : Type 0 where
  pub part : List ℕ
  pub closed : (x y : ℕ) → has part x ≡ true → has set y ≡ true → r x y ≡ true → has part y ≡ true
  pub asked : (y : ℕ) → has set y ≡ true → requested requests y ≡ true → has part y ≡ true
  pub none : cycle r part ≡ []
