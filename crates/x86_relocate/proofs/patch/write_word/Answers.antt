use Rattle.std.proofs.Common.{◌≡◌, ◌∙◌, sym, ap, length, true, subst}
use Rattle.raw_image.specs.Bytes.{with_bytes}
use Rattle.x86_relocate.specs.Patched.{IsWithin, bytes_of, fits, word_of}
use Rattle.x86_relocate.proofs.Applied.{one_more, length_by}
use Rattle.x86_relocate.proofs.patch.write_word.Goals as goal

pub returns-clause-more : goal.returns-clause-more
returns-clause-more c =
    let patch = c.args.patch.now in
    λ start done apart before.
    let same : length c.args.image.now ≡ length start = ap length before ∙ length_by start done in
    let within : IsWithin (length start) patch
    = subst (λ n. IsWithin n patch) same c.requires.within in
    let fit : fits patch ≡ true = sym c.in_ok-put_word.ensures.outcome in
    c.in_ok-put_word.ensures.image
    ∙ ap (λ i. with_bytes i patch.at (bytes_of (word_of patch))) before
    ∙ one_more start done patch c.requires.known within fit apart
