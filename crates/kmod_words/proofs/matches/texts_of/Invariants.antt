use Rattle.std.proofs.Common.{◌≡◌, ℕ, List, Bor, map, take}
use Rattle.kmod_words.proofs.matches.texts_of.Given as goal

abbrev pub invariant-loop-word : goal.invariant-loop-word
invariant-loop-word l =
    map (λ (text : Bor (List ℕ)). text.now) l.texts.items ≡ take l.word-index l.words
