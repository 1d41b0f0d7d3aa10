use Rattle.std.proofs.Common.{ap, arith}
use Rattle.elf_sections.specs.declared.section.Section.{Section}
use Rattle.elf_object.proofs.places.is_applied.Goals as goal

pub section-requires : goal.section-requires
section-requires c =
    let count = c.section-section.ensures.count in
    let index = c.requires.index in
    let kind = ap (λ (s : Section). s.kind) c.section-section.ensures.header in
    rw (← count, ap (λ (s : Section). s.info) c.section-section.ensures.header)
    (c.requires.fit.targets c.args.index (omega arith) (rw kind at c.if-section-eq-SHT_RELA.true))
