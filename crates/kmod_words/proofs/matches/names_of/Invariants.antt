use Rattle.std.proofs.Common.{◌≡◌, ℕ, List, Bor, map, take}
use Rattle.kmod_words.proofs.matches.names_of.Given as goal

abbrev pub invariant-loop-word : goal.invariant-loop-word
invariant-loop-word l =
    l.names ≡ map (λ (word : Bor (List ℕ)). word.now) (take l.word-index l.words)
