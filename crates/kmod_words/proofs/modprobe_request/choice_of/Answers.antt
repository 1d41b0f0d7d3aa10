use Rattle.std.proofs.Common.{◌∙◌, true, false, ap, sym}
use Rattle.clap.specs.Words.{found_of, rows_of}
use Rattle.kmod_words.specs.Numbers.{region_or_usual}
use Rattle.kmod_words.proofs.RequestLemmas.{chosen-among}
use Rattle.kmod_words.proofs.modprobe_request.choice_of.Goals as goal

pub returns-then-is_version : goal.returns-then-is_version
returns-then-is_version c =
    chosen-among (rows_of (found_of c.args.matches.now)) c.in_ok-mode.mode
    c.in_ok-version.version.now c.in_ok-region.region true c.in_ok-mode.ensures
    c.in_ok-version.ensures
    (c.in_ok-region.ensures ∙ ap region_or_usual c.value_of-2.ensures)
    (sym c.is_version.ensures ∙ c.if-is_version.true)

pub returns-else-is_version : goal.returns-else-is_version
returns-else-is_version c =
    chosen-among (rows_of (found_of c.args.matches.now)) c.in_ok-mode.mode
    c.in_ok-version.version.now c.in_ok-region.region false c.in_ok-mode.ensures
    c.in_ok-version.ensures
    (c.in_ok-region.ensures ∙ ap region_or_usual c.value_of-2.ensures)
    (sym c.is_version.ensures ∙ c.if-is_version.false)
