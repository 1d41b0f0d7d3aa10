use Rattle.std.proofs.Common.{◌≡◌}
use Rattle.glob_match.proofs.WordLemmas.{Changed}
use Rattle.glob_match.proofs.words.clear.Given as goal

abbrev pub invariant-loop-at : goal.invariant-loop-at
invariant-loop-at l = Changed (λ k old new. new ≡ 0) l.fn.words l.words l.at
