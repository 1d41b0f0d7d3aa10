-- String tables that have the same strings. gABI 4, "String Table".
use Rattle.std.specs.Prelude.{◌≡◌, ℕ, List}
use Rattle.km_names.specs.Strings.{string_at}

-- Both string tables have the same text at each place.
pub record HasStrings (table other : List ℕ) : Type 0 where
  pub strings : (at : ℕ) → string_at other at ≡ string_at table at
