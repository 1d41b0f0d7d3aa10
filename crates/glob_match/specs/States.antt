-- What holds of the places of a text that are kept.
-- The contract of `Progress` cites it; no lookup does.
use Rattle.std.specs.Prelude.{◌≡◌, ℕ, ◌+◌, ◌-◌, ◌/◌, ◌≤◌, vec_len}
use Rattle.glob_match.specs.declared.state.State.{State}

-- There are no more words than the places up to the end of the text need, as many for the listed
-- bytes as for the places.
pub record IsKept (size : ℕ) (s : State) : Type 0 where
  pub low : s.first ≤ size
  pub few : vec_len s.reached ≤ (size - s.first) / 64 + 1
  pub same : vec_len s.reached ≡ vec_len s.listed

-- Only the listed bytes changed.
pub record SamePlaces (old new : State) : Type 0 where
  pub first : new.first ≡ old.first
  pub reached : new.reached ≡ old.reached
  pub listed : vec_len new.listed ≡ vec_len old.listed
