-- The fields of one piece of the section `.modinfo`.
-- It belongs to the code: no public meaning rests on it.
use Rattle.std.specs.Prelude.{ℕ, List, [], ◌∷◌, map, filter}
use Rattle.modinfo_fields.specs.Fields.{field_of, is_text, values_of_key}

-- The values that a piece between NULs has for a key: one, or none.
abbrev pub values_in : List ℕ → List ℕ → List (List ℕ)
values_in key piece = values_of_key key (map field_of (filter is_text (piece ∷ [])))
