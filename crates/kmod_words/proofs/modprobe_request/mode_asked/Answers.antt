use Rattle.std.proofs.Common.{Bool, ap, ◌∙◌, codes}
use Rattle.clap.specs.Words.{found_of, rows_of}
use Rattle.kmod_words.specs.Modprobe.{mode_by_flags}
use Rattle.kmod_words.specs.Understood.{is_given}
use Rattle.kmod_words.proofs.modprobe_request.mode_asked.Goals as goal

pub returns : goal.returns
returns c =
    let rows = rows_of (found_of c.args.matches.now) in
    c.mode_by_flags.ensures
    ∙ ap (λ (b : Bool). mode_by_flags b c.is_given-2.result c.is_given-3.result c.is_given-4.result)
    c.is_given.ensures
    ∙ ap (λ (b : Bool). mode_by_flags (is_given (codes "dry-run") rows) b c.is_given-3.result
    c.is_given-4.result) c.is_given-2.ensures
    ∙ ap (λ (b : Bool). mode_by_flags (is_given (codes "dry-run") rows)
    (is_given (codes "show-depends") rows) b c.is_given-4.result) c.is_given-3.ensures
    ∙ ap (mode_by_flags (is_given (codes "dry-run") rows) (is_given (codes "show-depends") rows)
    (is_given (codes "resolve-alias") rows)) c.is_given-4.ensures
