use Rattle.std.proofs.Common.{◌∙◌, sym}
use Rattle.clap.specs.Words.{found_of, rows_of}
use Rattle.kmod_words.specs.Modprobe.{modprobe_of, options_go}
use Rattle.kmod_words.proofs.WordsLemmas.{passed}
use Rattle.kmod_words.proofs.modprobe_request.asked_by.Goals as goal

pub returns-in_ok-words_for : goal.returns-in_ok-words_for
returns-in_ok-words_for c =
    let rows = rows_of (found_of c.args.matches.now) in
    let choice = c.args.choice.now in
    passed (options_go rows choice.mode)
    (modprobe_of rows choice.mode choice.version.now choice.region) _
    (sym c.options_go.ensures ∙ c.if-options_go.true) c.in_ok-words_for.ensures
