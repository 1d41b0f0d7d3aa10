-- The answers of lookups in a map.
use Rattle.std.specs.Prelude.{ℕ, ◌==◌, not, Bool, List, [], ◌∷◌, length, Option, Some, None}
use Rattle.index_format.specs.Map.{Value, KeyValues, values_of}

-- Whether a map has a value of the key.
abbrev pub has_value : KeyValues → List ℕ → Bool
has_value m key = not (length (values_of m key) == 0)

-- The text of the first of some values.
abbrev pub text_of_first : List Value → Option (List ℕ)
text_of_first [] = None
text_of_first (first ∷ others) = Some first.1
