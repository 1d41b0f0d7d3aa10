-- What files count that tell how many calls were made.
use Rattle.std.specs.Prelude.{ℕ}
use Rattle.outside_calls.specs.CallCounts.{CallCounts, no_counts}
use Rattle.outside_calls.specs.Counts.{one_more}

-- The number of calls, and of those refused by their cause.
pub record Counted : Type 0 where
  pub calls : ℕ
  pub counts : CallCounts

-- No call made.
abbrev pub none_counted : Counted
none_counted = record { calls = 0; counts = no_counts }

-- What is counted after one more call, which left these counts of refusals.
abbrev pub one_counted : Counted → CallCounts → Counted
one_counted counted counts = record { calls = one_more counted.calls; counts = counts }
