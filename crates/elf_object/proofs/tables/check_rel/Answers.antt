use Rattle.std.proofs.Common.{ap, sym, arith}
use Rattle.elf_sections.specs.declared.section.Section.{Section}
use Rattle.elf_sections.specs.Shape.{section_count}
use Rattle.elf_object.specs.Symbols.{rel_test}
use Rattle.elf_sections.proofs.TestLemmas.{each-failed, each-passed}
use Rattle.elf_object.proofs.TableLemmas.{rel_test-failed}
use Rattle.elf_object.proofs.tables.check_rel.Goals as goal

pub returns-then-section-eq-SHT_REL : goal.returns-then-section-eq-SHT_REL
returns-then-section-eq-SHT_REL c =
    let b = c.args.sections.now.file in
    let i = c.loop-index.index in
    sym (each-failed (section_count b) (rel_test b) i _ (omega arith) c.loop-index.invariant
    (rel_test-failed b i
    (rw (ap (λ (s : Section). s.kind) c.section.ensures.header) at
    c.if-section-eq-SHT_REL.true)))

pub returns : goal.returns
returns c =
    let b = c.args.sections.now.file in
    sym (each-passed (section_count b) (rel_test b)
    (λ k less. c.loop-index.invariant k (omega arith)))
