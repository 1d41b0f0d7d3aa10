-- How the code finds the members of a group.
-- It belongs to the code: no public meaning rests on it.
use Rattle.std.specs.Prelude.{ℕ, List, [], ◌∷◌, Bool, true, false, ◌≡◌, ◌<◌, ◌||◌, ◌&&◌, ◌++◌}
use Rattle.std.specs.Prelude.{length, take}
use Rattle.std.specs.Global.{Vec}
use Rattle.relation_order.specs.Sets.{Relation, has, marked}
use Rattle.relation_order.specs.Search.{Marks}
use Rattle.plan_order.specs.Plan.{members, requested}
use Rattle.plan_order.specs.Lists.{items_of}

-- New items follow the ones found before. Together they are the ones found before and the members
-- of a request's group.
pub record FoundMore (r : Relation) (set request base found : List ℕ) : Type 0 where
  pub more : (new : List ℕ) × (found ≡ base ++ new)
      × ((y : ℕ) → has new y ≡ true → has base y ≡ false)
  pub same : (y : ℕ) → has found y ≡ (has base y || has (members r set base request) y)

-- Each item is below the ones after it.
abbrev pub Rises : List ℕ → Type 0
Rises [] = Unit {0}
Rises (x ∷ xs) = ((y : ℕ) → has xs y ≡ true → x < y) × Rises xs

-- Exactly the modules of the first requests that are in the set were found, and are marked.
pub record Asked (n : ℕ) (free : List Bool) (requests : List (Vec ℕ)) (i : ℕ) (found : List ℕ)
    (seen : List Bool) : Type 0 where
  pub long : length seen ≡ n
  pub marks : Marks found seen
  pub is : (y : ℕ) → has found y ≡ (has (marked free) y && requested (items_of (take i requests)) y)
