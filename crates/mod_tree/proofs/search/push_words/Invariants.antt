use Rattle.std.proofs.Common.{◌≡◌, ◌++◌, drop}
use Rattle.mod_tree.proofs.search.push_words.Given as goal

abbrev pub invariant-loop-word : goal.invariant-loop-word
invariant-loop-word l = l.search ++ drop l.word-index l.words ≡ l.fn.search ++ l.words
