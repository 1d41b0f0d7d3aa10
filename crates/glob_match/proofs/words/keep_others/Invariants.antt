use Rattle.std.proofs.Common.{◌≡◌, slice_index, bit_and, w64}
use Rattle.std.specs.Int.{bit_not}
use Rattle.glob_match.proofs.WordLemmas.{Changed}
use Rattle.glob_match.proofs.words.keep_others.Given as goal

abbrev pub invariant-loop-at : goal.invariant-loop-at
invariant-loop-at l =
    Changed (λ k old new. new ≡ bit_and old (bit_not w64 (slice_index l.listed k))) l.fn.words
    l.words l.at
