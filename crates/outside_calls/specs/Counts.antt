-- Counts of events, kept in 64 bits. A count never falls, and stays at its type's end.
use Rattle.std.specs.Prelude.{ℕ, ◌+◌, ◌-◌, ◌^◌, ◌≤◌, min, max}

-- The end of a count of 64 bits.
abbrev pub count_end : ℕ
count_end = 2 ^ 64 - 1

-- The count after one more event. It stays at its end, and never falls.
abbrev pub one_more : ℕ → ℕ
one_more n = max n (min (n + 1) count_end)

-- The count rose from before to now, or is at its end.
abbrev pub Rose : ℕ → ℕ → Type 0
Rose before now = one_more before ≤ now
