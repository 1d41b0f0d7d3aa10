-- Modules by their places among some rising ones, as the code names them.
-- It belongs to the code: no public meaning rests on it.
use Rattle.std.specs.Prelude.{ℕ, List, false, ◌≡◌, ◌<◌, length, slice_index, Option, Some, None}
use Rattle.std.specs.Global.{Vec}
use Rattle.relation_order.specs.Sets.{Relation, has, goes}

-- The place has the item, or no place has it.
abbrev pub IsPlaceIn : List ℕ → ℕ → Option ℕ → Type 0
IsPlaceIn members item (Some place) = (place < length members) × (slice_index members place ≡ item)
IsPlaceIn members item None = has members item ≡ false

-- The members' places go to each other in the lists as the members do.
abbrev pub GoLike : Relation → List ℕ → List (Vec ℕ) → Type 0
GoLike r members lists =
    (i j : ℕ) → i < length members → j < length members
    → goes lists i j ≡ r (slice_index members i) (slice_index members j)
