use Rattle.std.proofs.Common.{◌*◌, ◌++◌, ◌∷◌, [], codes, ap, ◌∙◌}
use Rattle.std.specs.List.{flat_map}
use Rattle.elf_write.specs.Number.{zeros, with_nul}
use Rattle.sheet_object.specs.Contents.{version_bytes}
use Rattle.sheet_object.specs.Object.{loaded_parts}
use Rattle.sheet_object.proofs.PartLemmas.{part, four-more}
use Rattle.sheet_object.proofs.parts.push_loaded.Goals as goal

pub returns : goal.returns
unfolding loaded_parts
returns c =
    let text = c.in_ok-text.ensures ∙ ap (λ n. zeros (16 * n)) c.len.ensures in
    let words = c.in_ok-data.ensures ∙ ap (λ n. zeros (8 * n)) c.len-2.ensures in
    let texts = c.in_ok-texts.ensures ∙ ap (flat_map with_nul) c.as_slice.ensures in
    let versions = c.in_ok-versions.ensures ∙ ap (flat_map version_bytes) c.as_slice-2.ensures in
    four-more c.args.parts.now.items c.push_part.new.parts.items c.push_part-2.new.parts.items
    c.push_part-3.new.parts.items c.push_part-4.new.parts.items
    (part (codes ".text") c.plain-code.result c.in_ok-text.text.items)
    (part (codes ".data") c.plain-words.result c.in_ok-data.data.items)
    (part (codes ".modinfo") c.plain-read.result c.in_ok-texts.texts.items)
    (part (codes "__versions") c.plain-entries.result c.in_ok-versions.versions.items)
    c.in_ok-push_part.ensures c.in_ok-push_part-2.ensures c.in_ok-push_part-3.ensures
    c.in_ok-push_part-4.ensures
    ∙ (λ i. c.args.parts.now.items ++ part (codes ".text") (c.plain-code.ensures i) (text i)
    ∷ part (codes ".data") (c.plain-words.ensures i) (words i)
    ∷ part (codes ".modinfo") (c.plain-read.ensures i) (texts i)
    ∷ part (codes "__versions") (c.plain-entries.ensures i) (versions i) ∷ [])
