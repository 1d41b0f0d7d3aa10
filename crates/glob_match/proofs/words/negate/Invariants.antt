use Rattle.std.proofs.Common.{◌≡◌, w64}
use Rattle.std.specs.Int.{bit_not}
use Rattle.glob_match.proofs.WordLemmas.{Changed}
use Rattle.glob_match.proofs.words.negate.Given as goal

abbrev pub invariant-loop-at : goal.invariant-loop-at
invariant-loop-at l = Changed (λ k old new. new ≡ bit_not w64 old) l.fn.words l.words l.at
