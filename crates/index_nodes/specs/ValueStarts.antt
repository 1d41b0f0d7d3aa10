-- The last places from which values are whole.
-- It belongs to the code: no public meaning rests on it.
use Rattle.std.specs.Prelude.{◌≡◌, ℕ, ◌<◌, ◌≤◌, true, false, List, length, drop, vec_len}
use Rattle.std.specs.Prelude.{slice_index}
use Rattle.index_format.specs.Check.{whole_values}
use Rattle.index_nodes.specs.declared.value_starts.ValueStarts.{ValueStarts}

-- This many values are whole from this place and from each before it, and from none after it.
pub record IsLastStart (b : List ℕ) (count start : ℕ) : Type 0 where
  pub within : start ≤ length b
  pub whole : (place : ℕ) → place ≤ start → whole_values count (drop place b) ≡ true
  pub cut : (place : ℕ) → place ≤ length b → start < place
      → whole_values count (drop place b) ≡ false

-- The known places: one for each number of values from 0 on.
pub record AreValueStarts (b : List ℕ) (s : ValueStarts) : Type 0 where
  pub some : 0 < vec_len s.last
  pub each : (count : ℕ) → count < vec_len s.last
      → IsLastStart b count (slice_index s.last.items count)
