use Rattle.std.proofs.Common.{◌≡◌, ℕ, ◌+◌, ◌*◌, ◌<◌, max, slice_index}
use Rattle.std.specs.Int.{bit_at}
use Rattle.glob_match.specs.Words.{bit, is_between}
use Rattle.glob_match.proofs.WordLemmas.{Changed}
use Rattle.glob_match.proofs.words.add_range.Given as goal

abbrev pub invariant-loop-at : goal.invariant-loop-at
invariant-loop-at l =
    Changed (λ k old new. (i : ℕ) → i < 64
    → bit_at new i
    ≡ max (bit_at old i) (bit (is_between l.low l.high (slice_index l.bytes (64 * k + i)))))
    l.fn.words l.words l.at
