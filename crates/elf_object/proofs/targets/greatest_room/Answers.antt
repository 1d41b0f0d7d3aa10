use Rattle.std.proofs.Common.{sym, ap, ◌∙◌, arith}
use Rattle.elf_sections.specs.declared.section.Section.{Section}
use Rattle.elf_object.proofs.PlaceLemmas.{is_applied-kind}
use Rattle.elf_object.proofs.targets.greatest_room.Goals as goal

pub section-requires : goal.section-requires
section-requires c =
    let b = c.args.sections.now.file in
    let i = c.loop-index.index in
    let applied = sym c.is_applied.ensures ∙ c.if-is_applied.true in
    let count = c.section-target.ensures.count in
    let header = c.section_count-index-end.ensures.header in
    rw (← count, ap (λ (s : Section). s.info) c.section-target.ensures.header)
    (c.requires.targets i (omega (arith, c.loop-index-test.true, header))
    (is_applied-kind b i applied))
