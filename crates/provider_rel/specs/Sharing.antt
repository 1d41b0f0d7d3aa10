-- The places of exports that share a name, as the code counts and links them.
-- It belongs to the code: no public meaning rests on it.
use Rattle.std.specs.Prelude.{ℕ, ◌<◌, ◌≤◌, ◌==◌, ◌≡◌, Bool, false, List, [], ◌∷◌, length, filter}
use Rattle.std.specs.Prelude.{slice_get, slice_index, All}
use Rattle.std.specs.Option.{option_map_or}
use Rattle.name_table.specs.NameTable.{Table, place_of}
use Rattle.relation_order.specs.Sets.{below}
use Rattle.provider_rel.specs.Items.{Item}

-- Whether the name of an item is first exported at this place.
abbrev pub stands_at : Table → ℕ → Item → Bool
stands_at names p i = option_map_or (λ q. q == p) (place_of names i.export.name) false

-- Whether the name of the item at a second place is first exported at the first one.
abbrev pub is_of : List Item → Table → ℕ → ℕ → Bool
is_of is names p j = option_map_or (stands_at names p) (slice_get is j) false

-- The places below a number of the items whose name is first exported at this place.
abbrev pub earlier_at : List Item → Table → ℕ → ℕ → List ℕ
earlier_at is names k p = filter (is_of is names p) (below k)

-- For each place how many items below a number have their name first exported there.
pub record AreCounts (is : List Item) (names : Table) (k : ℕ) (counts : List ℕ) : Type 0 where
  pub long : length counts ≡ length is
  pub counts_are : (p : ℕ) → p < length is → slice_index counts p ≡ length (earlier_at is names k p)

-- The places after a place, by a list that has a next one for each place. Each is later than the
-- one before it, and the last has no later one.
abbrev pub IsChain : List ℕ → ℕ → List ℕ → Type 0
IsChain next at [] = slice_index next at ≤ at
IsChain next at (j ∷ js) = (slice_index next at ≡ j) × (at < j) × IsChain next j js

-- The last of a place and the ones after it.
abbrev pub last_of : ℕ → List ℕ → ℕ
last_of at [] = at
last_of at (j ∷ js) = last_of j js

-- For each place, a chain from there has the items below a number whose name is first exported
-- there.
pub record AreLinked (is : List Item) (names : Table) (k : ℕ) (next : List ℕ) : Type 0 where
  pub long : length next ≡ length is
  pub inside : All (λ j. j < length is) next
  pub chains : (p : ℕ) (js : List ℕ) → earlier_at is names k p ≡ p ∷ js → IsChain next p js
  pub ends : (j : ℕ) → k ≤ j → slice_index next j ≤ j
