-- The map that an index represents: from a key to its values, in their order.
use Rattle.std.specs.Prelude.{ℕ, ◌<◌, All, List, [], ◌∷◌, nat_lt, if◌then◌else◌, unwrap_or}
use Rattle.std.specs.List.{list_all}
use Rattle.std.specs.Ordering.{nat_cmp}
use Rattle.std.specs.Cmp.Lexicographic.{slice_cmp}
use Rattle.std.specs.FinMap.{FinMap, code, get, insert}
use Rattle.std.specs.Coded.{Coded, coded×, coded_ℕ, coded_list}

-- A value: its priority and the bytes of its text.
abbrev pub Value : Type 0
Value = ℕ × List ℕ

-- A finite map from keys, in the order of their bytes, to lists of values.
abbrev pub KeyValues : Type 0
KeyValues = FinMap (slice_cmp nat_cmp) (List Value)

-- The values of a key, and none if the map doesn't have it.
abbrev pub values_of : KeyValues → List ℕ → List Value
values_of m key = unwrap_or (get m key) []

-- The values with one more, which goes after the last one whose priority isn't greater: before the
-- longest rest of the list whose priorities are all greater.
abbrev pub place : List Value → Value → List Value
place [] v = v ∷ []
place (x ∷ xs) v = if list_all (λ y. nat_lt v.0 y.0) (x ∷ xs) then v ∷ x ∷ xs else x ∷ place xs v

-- The map with one more value of a key.
abbrev pub with_value : KeyValues → List ℕ → Value → KeyValues
with_value m key v = insert m key (place (values_of m key) v)

-- The code of the map, by which a struct can be seen as such a map.
abbrev pub key_values_code : Coded KeyValues
key_values_code = code (coded_list coded_ℕ) (coded_list (coded× coded_ℕ (coded_list coded_ℕ)))

-- A key has bytes from 1 to 127, and a text has no NUL.
abbrev pub IsKey : List ℕ → Type 0
IsKey key = All (λ byte. (0 < byte) × (byte < 128)) key

abbrev pub IsText : List ℕ → Type 0
IsText text = All (λ byte. 0 < byte) text
