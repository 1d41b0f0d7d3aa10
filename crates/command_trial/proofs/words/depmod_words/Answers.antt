use Rattle.command_trial.specs.Words.{depmod_words}
use Rattle.command_trial.proofs.words.depmod_words.Goals as goal

pub returns : goal.returns
unfolding depmod_words
returns c = c.words_of.ensures
