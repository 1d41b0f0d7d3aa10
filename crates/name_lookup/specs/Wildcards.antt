-- Wildcards of patterns.
-- It belongs to the code: no public meaning rests on it. glob(7).
use Rattle.std.specs.Prelude.{◌≡◌, ℕ, ◌==◌, ◌||◌, Bool, true, false, List, ◌++◌}
use Rattle.std.specs.List.{list_any}
use Rattle.glob_pattern.specs.Pattern.{star, question, bracket}

-- Whether a byte is a wildcard, or opens a set. In a pattern without such bytes each byte is
-- itself.
abbrev pub is_wildcard : ℕ → Bool
is_wildcard byte = byte == star || (byte == question || byte == bracket)

-- A pattern is these two parts. The first has no wildcard, and the whole has one.
pub record IsSplit (pattern front rest : List ℕ) : Type 0 where
  pub whole : pattern ≡ front ++ rest
  pub plain : list_any is_wildcard front ≡ false
  pub wild : list_any is_wildcard pattern ≡ true
