use Rattle.std.proofs.Common.{◌≡◌, refl, map, sym, ap, ◌∙◌, arith}
use Rattle.std.proofs.lemmas.List.{map-append}
use Rattle.std.proofs.lemmas.List.FromFn.{map-range_with_len_more}
use Rattle.elf_sections.specs.Shape.{section_count}
use Rattle.elf_sections.specs.Sections.{owned_section, section_of, sections_of}
use Rattle.elf_sections.proofs.shape.section_table.Goals as goal
use Rattle.elf_sections.proofs.shape.section_table.Goals.{After-from_vec}

pub loop-index-preserved : goal.loop-index-preserved
loop-index-preserved c =
    let i = c.loop-index.index in
    ap (map owned_section) c.in_ok-push.ensures.items
    ∙ map-append owned_section c.loop-index.sections.items _
    ∙ rw (c.loop-index.invariant, c.section_at.ensures)
    (sym (map-range_with_len_more (section_of c.args.bytes.now) 0 i i (omega arith)))

-- what was read are the sections of the file
all_are : (c : After-from_vec) → map owned_section c.from_vec.result ≡ sections_of c.args.bytes.now
unfolding sections_of
all_are c =
    let end : c.loop-index.index ≡ section_count c.args.bytes.now = omega arith in
    ap (map owned_section) c.from_vec.ensures ∙ rw end at c.loop-index.invariant

pub invariant_of-result : goal.invariant_of-result
invariant_of-result c = rw (all_are c) c.requires

pub returns : goal.returns
returns c = rw (all_are c) refl
