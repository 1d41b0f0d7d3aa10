use Rattle.std.proofs.Common.{◌≡◌, slice_index, bit_and}
use Rattle.glob_match.proofs.WordLemmas.{Changed}
use Rattle.glob_match.proofs.words.keep.Given as goal

abbrev pub invariant-loop-at : goal.invariant-loop-at
invariant-loop-at l =
    Changed (λ k old new. new ≡ bit_and old (slice_index l.listed k)) l.fn.words l.words l.at
