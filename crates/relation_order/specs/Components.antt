-- The state of a search for strongly connected components.
-- It belongs to the code: no public meaning rests on it.
use Rattle.std.specs.Prelude.{ℕ, List, [], ◌∷◌, ◌++◌, Bool, true, false, ◌≡◌, ◌⊎◌, ◌<◌, ◌≤◌, ◌+◌}
use Rattle.std.specs.Prelude.{◌-◌, ◌*◌, ◌||◌, ◌&&◌, length, take, nat_eq, nat_lt, slice_index}
use Rattle.std.specs.Prelude.{slice_index_or, slice_set, ◌≢◌}
use Rattle.std.specs.Global.{Vec}
use Rattle.relation_order.specs.Sets.{Relation, has, goes, marked, successors, Rising}
use Rattle.relation_order.specs.Reached.{reached}
use Rattle.relation_order.specs.declared.components.State.{State}
use Rattle.relation_order.specs.declared.components.State.TheVariants.{New, Open, Done}
use Rattle.relation_order.specs.declared.components.CycleSearch.{CycleSearch}

-- The state of an item.
abbrev pub state_of : List State → ℕ → State
state_of states x = slice_index_or states x New

-- Whether an item wasn't met.
abbrev pub is_new : State → Bool
is_new New = true
is_new (Open p) = false
is_new (Done b) = false

-- Whether the component of an item is whole.
abbrev pub is_done : State → Bool
is_done New = false
is_done (Open p) = false
is_done (Done b) = true

-- Whether an item was found to lie on a cycle.
abbrev pub is_on_cycle : State → Bool
is_on_cycle New = false
is_on_cycle (Open p) = false
is_on_cycle (Done b) = b

-- Whether a first item's step to a second was checked.
abbrev pub looked_at : List (Vec ℕ) → List ℕ → Relation
looked_at lists looked x y = has (take (slice_index looked x) (successors lists x)) y

-- The steps of a relation, and one more.
abbrev pub with_step : Relation → ℕ → ℕ → Relation
with_step r from to x y = r x y || (nat_eq x from && nat_eq y to)

-- The component of a second place is the component of a first place, or a later one.
abbrev pub IsNoEarlier : List ℕ → ℕ → ℕ → Type 0
IsNoEarlier starts p q = (b : ℕ) → has starts b ≡ true → b ≤ p → b ≤ q

-- A list ends in a number.
abbrev pub EndsIn : List ℕ → ℕ → Type 0
EndsIn xs x = (front : List ℕ) × (xs ≡ front ++ x ∷ [])

-- The open items are at their places. Walks lead from each to the ones after it, and back to the
-- ones before it in its component. What was checked from an open item is done, or in its component
-- or a later one. All that it goes to was checked, unless it is on the path. The path has the first
-- item of each component. Items that are done go only to items that are done, and are known to lie
-- on a cycle or not.
pub record Searching (r looked : Relation) (set : List ℕ) (states : List State)
    (stack starts path : List ℕ) : Type 0 where
  pub members : (p : ℕ) → p < length stack → has set (slice_index stack p) ≡ true
  pub placed : (p : ℕ) → p < length stack → state_of states (slice_index stack p) ≡ Open p
  pub at_place : (x p : ℕ) → state_of states x ≡ Open p → (p < length stack)
      × (slice_index stack p ≡ x)
  pub forth : (p q : ℕ) → p < q → q < length stack
      → has (reached r set (slice_index stack p)) (slice_index stack q) ≡ true
  pub back : (p q : ℕ) → p < q → q < length stack → IsNoEarlier starts q p
      → has (reached r set (slice_index stack q)) (slice_index stack p) ≡ true
  pub settled : (p y : ℕ) → p < length stack → looked (slice_index stack p) y ≡ true → has set y
      ≡ true → (is_done (state_of states y) ≡ true)
      ⊎ ((q : ℕ) × (state_of states y ≡ Open q) × IsNoEarlier starts p q)
  pub fresh : (x y : ℕ) → state_of states x ≡ New → looked x y ≡ false
  pub whole : (p y : ℕ) → p < length stack → has path p ≡ false → has set y ≡ true
      → r (slice_index stack p) y ≡ true → looked (slice_index stack p) y ≡ true
  pub starts_on_path : (b : ℕ) → has starts b ≡ true → has path b ≡ true
  pub first_start : 0 < length stack → has starts 0 ≡ true
  pub path_open : (p : ℕ) → has path p ≡ true → p < length stack
  pub path_rises : Rising path
  pub starts_rise : Rising starts
  pub done_closed : (x y : ℕ) → is_done (state_of states x) ≡ true → has set y ≡ true → r x y ≡ true
      → is_done (state_of states y) ≡ true
  pub done_known : (x : ℕ) (b : Bool) → state_of states x ≡ Done b → b ≡ has (reached r set x) x

-- The state of a search whose path is this one.
pub record SearchOf (lists : List (Vec ℕ)) (members : List Bool) (search : CycleSearch)
    (path : List ℕ) : Type 0 where
  pub states_long : length search.states.items ≡ length lists
  pub looked_long : length search.looked.items ≡ length lists
  pub searching : Searching (goes lists) (looked_at lists search.looked.items) (marked members)
      search.states.items search.stack.items search.starts.items path

-- The number of steps that weren't checked.
abbrev pub steps_left : List (Vec ℕ) → List ℕ → ℕ
steps_left [] looked = 0
steps_left (v ∷ vs) [] = length v.items + steps_left vs []
steps_left (v ∷ vs) (k ∷ ks) = (length v.items - k) + steps_left vs ks

-- A number that falls with each turn of a search.
abbrev pub work : List (Vec ℕ) → CycleSearch → ℕ
work lists search = 2 * steps_left lists search.looked.items + length search.path.items

-- Items that were met stay met.
abbrev pub KeepsMet : List State → List State → Type 0
KeepsMet old new = (x : ℕ) → is_new (state_of old x) ≡ false → is_new (state_of new x) ≡ false

-- An item becomes the last open one, with a component of its own.
pub record Enters (old new : CycleSearch) (item : ℕ) : Type 0 where
  pub states : new.states.items ≡ slice_set old.states.items item (Open (length old.stack.items))
  pub stack : new.stack.items ≡ old.stack.items ++ item ∷ []
  pub starts : new.starts.items ≡ old.starts.items ++ length old.stack.items ∷ []
  pub path : new.path.items ≡ old.path.items ++ length old.stack.items ∷ []
  pub looked : new.looked.items ≡ old.looked.items

-- A front of a list, whose last item isn't above a number. All items after the front are.
pub record DropsAbove (old new : List ℕ) (place : ℕ) : Type 0 where
  pub front : new ≡ take (length new) old
  pub above : (i : ℕ) → length new ≤ i → i < length old → place < slice_index old i
  pub below : (k : ℕ) → k + 1 ≡ length new → slice_index old k ≤ place

-- The open items from a place on are done. They lie on a cycle if there is more than one, or one
-- goes to itself. The others stay as they were.
pub record Finishes (r : Relation) (stack : List ℕ) (from : ℕ) (old new : List State) : Type 0 where
  pub finished : (p : ℕ) → from ≤ p → p < length stack → state_of new (slice_index stack p)
      ≡ Done (nat_lt (from + 1) (length stack) || r (slice_index stack p) (slice_index stack p))
  pub rest : (x : ℕ) → ((p : ℕ) → from ≤ p → p < length stack → slice_index stack p ≢ x)
      → state_of new x ≡ state_of old x
