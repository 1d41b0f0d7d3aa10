-- The order of a set, or the cycle that keeps it from having one.
use Rattle.std.specs.Prelude.{ℕ, List, [], ◌∷◌, true, ◌≡◌, ◌<◌, length, take, slice_index}
use Rattle.relation_order.specs.Sets.{Relation, has}
use Rattle.relation_order.specs.Least.{least_order}
use Rattle.relation_order.specs.Cycle.{cycle}
use Rattle.relation_order.specs.declared.placed.OrderOrCycle.{OrderOrCycle}
use Rattle.relation_order.specs.declared.placed.OrderOrCycle.TheVariants.{Order, Cycle}

-- Each item of the order comes after the members of the set that it goes to.
abbrev pub After : Relation → List ℕ → List ℕ → Type 0
After r set order = (i : ℕ) → i < length order → (y : ℕ) → has set y ≡ true
    → r (slice_index order i) y ≡ true → has (take i order) y ≡ true

-- The order has exactly the members of the set, each once, and each after the members that it goes
-- to.
pub record IsOrder (r : Relation) (set order : List ℕ) : Type 0 where
  pub members : (x : ℕ) → has order x ≡ has set x
  pub long : length order ≡ length set
  pub after : After r set order

-- Each item goes to the next, and the last to the end.
abbrev pub Goes : Relation → ℕ → List ℕ → ℕ → Type 0
Goes r x [] end = r x end ≡ true
Goes r x (y ∷ ys) end = (r x y ≡ true) × Goes r y ys end

-- Each item goes to the next, and the last to the first.
abbrev pub Closes : Relation → List ℕ → Type 0
Closes r [] = ⊥
Closes r (first ∷ rest) = Goes r first rest first

-- The order is the least one, if there is no cycle. Otherwise the cycle is the named one.
abbrev pub IsAnswer : Relation → List ℕ → OrderOrCycle → Type 0
IsAnswer r set (Order order) = (cycle r set ≡ []) × (order.items ≡ least_order r set)
    × IsOrder r set order.items
IsAnswer r set (Cycle found) = (found.items ≡ cycle r set) × Closes r found.items
