use Rattle.std.proofs.Common.{◌≡◌, map, take}
use Rattle.command_trial.proofs.words.words_of.Given as goal

-- The words so far are those of the texts so far.
abbrev pub invariant-loop-text : goal.invariant-loop-text
invariant-loop-text l = l.words ≡ map (λ text. text.now) (take l.text-index l.texts)
