use Rattle.std.proofs.Common.{◌∙◌}
use Rattle.clap.specs.Words.{found_of}
use Rattle.kmod_words.proofs.MatchLemmas.{value-rows}
use Rattle.kmod_words.proofs.matches.value_of.Goals as goal

pub returns : goal.returns
returns c = c.get_str.ensures ∙ value-rows (found_of c.args.matches.now) c.args.name.now
