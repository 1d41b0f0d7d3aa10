use Rattle.std.proofs.Common.{◌++◌, ◌∷◌, [], codes, ◌∙◌}
use Rattle.elf_write.specs.Params.{loaded_param_parts}
use Rattle.elf_write.proofs.PartLemmas.{part, three-more}
use Rattle.elf_write.proofs.params.push_loaded.Goals as goal

pub returns : goal.returns
unfolding loaded_param_parts
returns c =
    let words
    = c.in_ok-extend_from_slice.ensures.items
    ∙ (λ i. c.in_ok-data.ensures i ++ c.requires.names i) in
    let entries = c.in_ok-entries.ensures in
    let texts = c.in_ok-texts.ensures in
    three-more c.args.parts.now.items c.push_part.new.parts.items c.push_part-2.new.parts.items
    c.push_part-3.new.parts.items
    (part (codes ".data") c.plain-words.result c.extend_from_slice.new.self.items)
    (part (codes "__param") c.plain-read.result c.in_ok-entries.entries.items)
    (part (codes ".modinfo") c.plain-text.result c.in_ok-texts.texts.items)
    c.in_ok-push_part.ensures c.in_ok-push_part-2.ensures c.in_ok-push_part-3.ensures
    ∙ (λ i. c.args.parts.now.items ++ part (codes ".data") (c.plain-words.ensures i) (words i)
    ∷ part (codes "__param") (c.plain-read.ensures i) (entries i)
    ∷ part (codes ".modinfo") (c.plain-text.ensures i) (texts i) ∷ [])
