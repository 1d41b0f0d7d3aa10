use Rattle.std.proofs.Common.{Some, None, ◌∙◌}
use Rattle.std.proofs.lemmas.Result.{IfOk-weaker}
use Rattle.clap.specs.Words.{found_of}
use Rattle.kmod_words.proofs.MatchLemmas.{words-rows}
use Rattle.kmod_words.proofs.matches.words_of.Goals as goal

pub returns-in-Some : goal.returns-in-Some
returns-in-Some c =
    IfOk-weaker c.names_of.result _ _
    (λ words is. is
    ∙ words-rows (found_of c.args.matches.now) c.args.name.now (Some c.in-Some.words)
    c.in-Some.ensures) c.names_of.ensures

pub returns-in-None : goal.returns-in-None
returns-in-None c =
    c.new.ensures ∙ words-rows (found_of c.args.matches.now) c.args.name.now None c.in-None.ensures
