-- Sets of items, as lists of them, and relations between items.
use Rattle.std.specs.Prelude.{ℕ, zero, suc, List, Bool, true, false, map, length, nat_eq}
use Rattle.std.specs.Prelude.{slice_index_or, [], ◌∷◌, filter, ◌≡◌, ◌<◌}
use Rattle.std.specs.List.{list_any, range_with_len}
use Rattle.std.specs.Global.{Vec}

-- Whether a first item goes to a second.
abbrev pub Relation : Type 0
Relation = ℕ → ℕ → Bool

-- Whether an item is in a list.
abbrev pub has : List ℕ → ℕ → Bool
has items x = list_any (nat_eq x) items

-- The items below a number, in order.
abbrev pub below : ℕ → List ℕ
below n = range_with_len 0 n

-- The places of marks, in order.
abbrev pub marked : List Bool → List ℕ
marked marks = filter (λ y. slice_index_or marks y false) (below (length marks))

-- The value after k steps.
abbrev pub times : {X : Type 0} → ℕ → (X → X) → X → X
times zero step x = x
times (suc n) step x = step (times n step x)

-- The list of an item, which has the items that it goes to.
abbrev pub successors : List (Vec ℕ) → ℕ → List ℕ
successors lists x = slice_index_or (map (λ (v : Vec ℕ). v.items) lists) x []

-- Each item goes to the items in its list.
abbrev pub goes : List (Vec ℕ) → Relation
goes lists x y = has (successors lists x) y

-- Each number is below the ones after it.
abbrev pub Rising : List ℕ → Type 0
Rising [] = Unit {0}
Rising (x ∷ xs) = ((y : ℕ) → has xs y ≡ true → x < y) × Rising xs
