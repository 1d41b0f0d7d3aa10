use Rattle.std.proofs.Common.{◌≡◌, true, false, refl, ap, sym, ◌∙◌, arith}
use Rattle.elf_object.specs.declared.fault.ObjectFault.TheVariants.{BadAlign}
use Rattle.elf_sections.specs.declared.section.Section.{Section}
use Rattle.elf_sections.specs.Shape.{section_count}
use Rattle.elf_sections.specs.Sections.{section_of}
use Rattle.elf_object.specs.Places.{align_test, is_alignment}
use Rattle.elf_sections.proofs.TestLemmas.{each-failed, each-passed}
use Rattle.elf_object.proofs.places.check_alignments.Goals as goal

pub returns-then-not-is_alignment : goal.returns-then-not-is_alignment
unfolding align_test
returns-then-not-is_alignment c =
    let b = c.args.sections.now.file in
    let i = c.loop-index.index in
    let kept : (section_of b i).kept ≡ true
    = rw (ap (λ (s : Section). s.kept) c.section-section.ensures.header) at c.if-section.true in
    let bad : is_alignment (section_of b i).align ≡ false =
    rw (ap (λ (s : Section). s.align) c.section-section.ensures.header) at
    (sym c.is_alignment.ensures ∙ c.if-not-is_alignment.true) in
    sym (each-failed (section_count b) (align_test b) i (BadAlign i) (omega arith)
    c.loop-index.invariant (rw (kept, bad) refl))

pub returns : goal.returns
returns c =
    let b = c.args.sections.now.file in
    sym (each-passed (section_count b) (align_test b)
    (λ k less. c.loop-index.invariant k (omega arith)))
