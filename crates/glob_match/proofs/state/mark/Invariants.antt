use Rattle.std.proofs.Common.{◌≡◌, ℕ, ◌<◌, Bool, List, length, slice_index}
use Rattle.glob_match.specs.Words.{bit, HasBits}
use Rattle.glob_match.proofs.state.mark.Given as goal

-- the bytes so far were marked
pub record Marking (set bytes marks : List ℕ) (count : ℕ) : Type 0 where
  pub size : length marks ≡ count
  pub marked : (test : ℕ → Bool) (k : ℕ) → HasBits set test → k < count
      → slice_index marks k ≡ bit (test (slice_index bytes k))

abbrev pub invariant-loop-n : goal.invariant-loop-n
invariant-loop-n l = Marking l.set l.bytes l.marks.items l.n
