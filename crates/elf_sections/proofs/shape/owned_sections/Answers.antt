use Rattle.std.proofs.Common.{◌≡◌, sym, ◌∙◌, arith}
use Rattle.std.proofs.lemmas.List.FromFn.{map-range_with_len_more}
use Rattle.elf_sections.specs.Shape.{section_count}
use Rattle.elf_sections.specs.Sections.{section_of, sections_of}
use Rattle.elf_sections.proofs.shape.owned_sections.Goals as goal

pub loop-index-preserved : goal.loop-index-preserved
loop-index-preserved c =
    let i = c.loop-index.index in
    c.in_ok-push.ensures.items
    ∙ rw (c.loop-index.invariant, c.in_ok-to_owned.ensures, c.section_at.ensures)
    (sym (map-range_with_len_more (section_of c.args.bytes.now) 0 i i (omega arith)))

pub returns : goal.returns
unfolding sections_of
returns c =
    let end : c.loop-index.index ≡ section_count c.args.bytes.now = omega arith in
    c.from_vec.ensures ∙ rw end at c.loop-index.invariant
