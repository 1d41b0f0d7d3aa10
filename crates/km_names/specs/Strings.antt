-- Strings that end with a NUL, as string tables have them. gABI 4, "String Table".
use Rattle.std.specs.Prelude.{ℕ, List, Option, ◌==◌, take, drop, option_map}
use Rattle.std.specs.List.{position}

-- The string that the bytes begin with: those before the first NUL, if there is one.
unfoldable pub first_string : List ℕ → Option (List ℕ)
first_string bytes = option_map (λ n. take n bytes) (position (λ b. b == 0) bytes)

-- The string at a place of a table: the bytes from there up to the next NUL, if one follows.
abbrev pub string_at : List ℕ → ℕ → Option (List ℕ)
string_at table at = first_string (drop at table)
