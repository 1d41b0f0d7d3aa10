-- The calls of one kind, numbered from 0 in their order, with a list of those that are to fail.
use Rattle.std.specs.Prelude.{ℕ, ◌==◌, Bool, List, [], ◌∷◌, ◌++◌, length}
use Rattle.std.specs.List.{list_any}
use Rattle.outside_calls.specs.Counts.{one_more}

-- The number of the next call, which stays at a count's end, and the numbers of the calls that are
-- to fail. Only numbers below a count's end are listed, so each listed number belongs to at most
-- one call.
pub record CallsSeen : Type 0 where
  pub next : ℕ
  pub failing : List ℕ

-- The state of no call made and none listed to fail.
abbrev pub no_calls : CallsSeen
no_calls = record { next = 0; failing = [] }

-- Whether the next call is to fail.
abbrev pub next_fails : CallsSeen → Bool
next_fails calls = list_any (λ n. n == calls.next) calls.failing

-- The calls after one more.
abbrev pub called : CallsSeen → CallsSeen
called calls = record calls { next = one_more calls.next }

-- The calls with number n listed to fail.
abbrev pub with_failing : CallsSeen → ℕ → CallsSeen
with_failing calls n = record calls { failing = calls.failing ++ n ∷ [] }

-- Whether no call is listed to fail.
abbrev pub none_listed : CallsSeen → Bool
none_listed calls = length calls.failing == 0
