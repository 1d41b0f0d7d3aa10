use Rattle.std.proofs.Common.{◌≡◌, ℕ, ◌<◌, List, length, slice_index}
use Rattle.glob_match.proofs.set_items.all_bytes.Given as goal

-- the bytes so far are at their places
pub record Own (bytes : List ℕ) (count : ℕ) : Type 0 where
  pub size : length bytes ≡ 256
  pub own : (k : ℕ) → k < count → slice_index bytes k ≡ k

abbrev pub invariant-loop-byte : goal.invariant-loop-byte
invariant-loop-byte l = Own l.bytes l.byte
