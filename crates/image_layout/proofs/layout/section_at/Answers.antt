use Rattle.std.proofs.Common.{◌≡◌, ◌∙◌, ℕ, List, Some, true, ap, sym, arith, take}
use Rattle.std.specs.List.{slice_get}
use Rattle.elf_sections.specs.declared.section.Section.{Section}
use Rattle.image_layout.specs.declared.class.Class.{Class}
use Rattle.image_layout.specs.Offsets.{aligned, class_of, class_start, end_of, of_class, offset}
use Rattle.image_layout.proofs.OffsetLemmas.{lies_in, offset_kept}
use Rattle.image_layout.proofs.layout.section_at.Goals as goal

-- A section that is placed after those of its class before it.
placed : (xs : List Section) (i : ℕ) (s : Section) (class : Class) (start end at : ℕ)
    → slice_get xs i ≡ Some s → s.kept ≡ true → class ≡ class_of s → start ≡ class_start xs class
    → end ≡ end_of start (of_class class (take i xs)) → at ≡ aligned end s.align → at ≡ offset xs i
placed xs i s class start end at is kept class_is start_is end_is at_is =
    at_is
    ∙ ap (λ e. aligned e s.align)
    (end_is ∙ ap (λ p. end_of p (of_class class (take i xs))) start_is
    ∙ ap (λ k. end_of (class_start xs k) (of_class k (take i xs))) class_is)
    ∙ sym (offset_kept xs i s is kept)

pub overflow_cast-result : goal.overflow_cast-result
overflow_cast-result c =
    let xs = c.args.object.now.sections in
    let s = c.section-section.result.now in
    let is = c.section-section.ensures.section in
    let kept = rw is at c.requires.kept in
    let here
    = placed xs c.args.i s _ _ _ _ is kept c.class_of-class.ensures c.start_of.ensures.start
    c.end_of_first-end.ensures.end c.aligned.ensures.aligned in
    let lies = lies_in xs c.args.i s is kept in
    omega (arith, here, lies.image, c.requires.fits)

pub returns : goal.returns
returns c =
    let xs = c.args.object.now.sections in
    let s = c.section-section.result.now in
    let is = c.section-section.ensures.section in
    let kept = rw is at c.requires.kept in
    let here
    = placed xs c.args.i s _ _ _ _ is kept c.class_of-class.ensures c.start_of.ensures.start
    c.end_of_first-end.ensures.end c.aligned.ensures.aligned in
    let lies = lies_in xs c.args.i s is kept in
    record { at = here; within = rw is (omega (arith, here, lies.image)) }
