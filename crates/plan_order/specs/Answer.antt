-- A plan for some requests, or the cycle that keeps them from having one.
use Rattle.std.specs.Prelude.{ℕ, suc, List, [], ◌≡◌, ◌<◌, ◌≤◌, length, take, nat_eq, slice_index}
use Rattle.std.specs.List.{IsDistinct}
use Rattle.relation_order.specs.Sets.{Relation, has}
use Rattle.relation_order.specs.Cycle.{cycle}
use Rattle.relation_order.specs.Answer.{After, Closes}
use Rattle.plan_order.specs.Plan.{plan, planned, with_groups}
use Rattle.plan_order.specs.Queue.{queued}
use Rattle.plan_order.specs.declared.plan.GroupedOrder.{GroupedOrder}
use Rattle.plan_order.specs.declared.plan.PlanOrCycle.{PlanOrCycle}
use Rattle.plan_order.specs.declared.plan.PlanOrCycle.TheVariants.{Plan, Cycle}

-- The order is the plan, and a queue of the requests makes it too. It has exactly what is planned,
-- each module once and after the modules that come before it. The group of each request ends at the
-- end of the groups up to it.
pub record IsPlan (r : Relation) (set : List ℕ) (post : ℕ → List ℕ) (requests : List (List ℕ))
    (p : GroupedOrder) : Type 0 where
  pub order : p.order.items ≡ plan r set post requests
  pub queue : (m : ℕ) × ((n : ℕ) → m ≤ n → queued r set post n [] requests ≡ p.order.items)
  pub distinct : IsDistinct nat_eq p.order.items
  pub members : (x : ℕ) → has p.order.items x ≡ has (planned r set post requests) x
  pub after : After r set p.order.items
  pub ends_long : length p.ends.items ≡ length requests
  pub ends : (k : ℕ) → k < length requests
      → slice_index p.ends.items k ≡ length (with_groups r set [] (take (suc k) requests))

-- The answer is the plan, if nothing planned comes before itself. Otherwise it is the named cycle
-- of what is planned.
abbrev pub IsAnswer : Relation → List ℕ → (ℕ → List ℕ) → List (List ℕ) → PlanOrCycle → Type 0
IsAnswer r set post requests (Plan p) =
    (cycle r (planned r set post requests) ≡ []) × IsPlan r set post requests p
IsAnswer r set post requests (Cycle found) =
    (found.items ≡ cycle r (planned r set post requests)) × Closes r found.items
