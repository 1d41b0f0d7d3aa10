use Rattle.std.proofs.Common.{◌≡◌}
use Rattle.command_trial.specs.Words.{modprobe_words}
use Rattle.command_trial.proofs.words.modprobe_words.Given as goal

-- The words are those of so many modules.
abbrev pub invariant-loop-number : goal.invariant-loop-number
invariant-loop-number l = l.words ≡ modprobe_words l.number
