use Rattle.std.proofs.Common.{◌∙◌, ap}
use Rattle.clap.specs.Words.{found_of}
use Rattle.kmod_words.specs.Understood.{is_from_words, is_given}
use Rattle.kmod_words.proofs.MatchLemmas.{source-rows}
use Rattle.kmod_words.proofs.matches.is_given.Goals as goal

pub returns : goal.returns
unfolding is_given
returns c =
    c.is_from_words.ensures
    ∙ ap is_from_words
    (c.value_source.ensures ∙ source-rows (found_of c.args.matches.now) c.args.name.now)
