use Rattle.std.proofs.Common.{◌≡◌, ◌*◌, ℕ, ◌+◌, ◌<◌, ◌≤◌, Bool, List, slice_index}
use Rattle.std.specs.Int.{bit_at}
use Rattle.glob_match.specs.Words.{bit, HasBits, any_up_to}
use Rattle.glob_match.proofs.WordLemmas.{any_below}
use Rattle.glob_match.proofs.words.fill.Given as goal

-- the words so far have the places up to which one is there, and whether there was one is known
pub record Filling (old new : List ℕ) (at : ℕ) (found : Bool) : Type 0 where
  pub filled : (test : ℕ → Bool) → HasBits old test → (k i : ℕ) → k < at → i < 64
      → bit_at (slice_index new k) i ≡ bit (any_up_to test (64 * k + i))
  pub found_is : (test : ℕ → Bool) → HasBits old test → found ≡ any_below test (64 * at)
  pub left : (k : ℕ) → at ≤ k → slice_index new k ≡ slice_index old k

abbrev pub invariant-loop-at : goal.invariant-loop-at
invariant-loop-at l = Filling l.fn.words l.words l.at l.found
