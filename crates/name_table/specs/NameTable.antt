-- Tables of the names that the items of a list state.
use Rattle.std.specs.Prelude.{◌≡◌, ℕ, Bool, false, List, length, Option}
use Rattle.std.specs.List.{position}
use Rattle.std.specs.Map.{lookup}
use Rattle.std.specs.Option.{option_map_or}
use Rattle.std.specs.Str.{bytes_eq}

-- Whether an item that states a name, or none, states this one.
abbrev pub states : List ℕ → Option (List ℕ) → Bool
states name stated = option_map_or (λ n. bytes_eq n name) stated false

-- The place of the first item that states this name, by what each of the items states.
abbrev pub first_place : List (Option (List ℕ)) → List ℕ → Option ℕ
first_place items name = position (states name) items

-- A table: names with their places, and how many items there were.
pub record Table : Type 0 where
  pub entries : List (List ℕ × ℕ)
  pub count : ℕ

-- The place that a table has for a name.
abbrev pub place_of : Table → List ℕ → Option ℕ
place_of t name = lookup (bytes_eq name) t.entries

-- The table of a list of items: for each name it has the place of the first item that states it.
pub record IsTableOf (t : Table) (items : List (Option (List ℕ))) : Type 0 where
  pub count : t.count ≡ length items
  pub places : (name : List ℕ) → place_of t name ≡ first_place items name
