use Rattle.std.proofs.Common.{◌≡◌, ◌*◌, ℕ, ◌+◌, ◌<◌, ◌≤◌, Bool, false, List, length, slice_index}
use Rattle.std.specs.Int.{bit_at}
use Rattle.glob_match.specs.Words.{bit, HasBits}
use Rattle.glob_match.proofs.ShiftLemmas.{IsFilled}
use Rattle.glob_match.proofs.words.fill_down.Given as goal

-- the words from a place on have the places before one that is there, and whether there was one is
-- known
pub record Filling (old new : List ℕ) (at : ℕ) (found : Bool) : Type 0 where
  pub filled : (test full : ℕ → Bool) → HasBits old test → IsFilled test full
      → full (64 * length old) ≡ false → (k i : ℕ) → at ≤ k → k < length old → i < 64
      → bit_at (slice_index new k) i ≡ bit (full (64 * k + i))
  pub found_is : (test full : ℕ → Bool) → HasBits old test → IsFilled test full
      → full (64 * length old) ≡ false → full (64 * at) ≡ found
  pub left : (k : ℕ) → k < at → slice_index new k ≡ slice_index old k

abbrev pub invariant-loop-at : goal.invariant-loop-at
invariant-loop-at l = Filling l.fn.words l.words l.at l.found
