use Rattle.std.proofs.Common.{◌≡◌, ◌+◌, ◌-◌, ◌<◌, ℕ, Vec, Global, sym, ap, ◌∙◌}
use Rattle.std.proofs.Common.{arith}
use Rattle.std.proofs.lemmas.List.{get_or_read}
use Rattle.elf_sections.specs.declared.section.Section.{Section}
use Rattle.elf_sections.specs.Shape.{section_count}
use Rattle.elf_object.proofs.PlaceLemmas.{is_applied-kind}
use Rattle.elf_object.proofs.TargetSteps.{AreTargetTables-more, AreTargetTables-other}
use Rattle.elf_object.proofs.targets.TargetTables.new.Goals as goal
use Rattle.elf_object.proofs.targets.TargetTables.new.Goals.{then-is_applied, else-is_applied}

pub index-requires : goal.index-requires
index-requires c =
    let b = c.args.sections.now.file in
    let i = c.section_count-count.result - 1 - c.loop-done.done in
    let applied = sym c.is_applied.ensures ∙ c.if-is_applied.true in
    let header = c.section_count-count.ensures.header in
    let info = ap (λ (s : Section). s.info) c.section.ensures.header in
    let less
    = c.requires.targets i (omega (arith, c.loop-done-test.true, header))
    (is_applied-kind b i applied) in
    omega (arith, info, less, c.loop-done.invariant.first_length, c.loop-done.first.ok.0)

pub index_mut-requires-then-is_applied : goal.index_mut-requires-then-is_applied
index_mut-requires-then-is_applied c =
    let b = c.args.sections.now.file in
    let i = c.section_count-count.result - 1 - c.loop-done.done in
    let applied = sym c.is_applied.ensures ∙ c.if-is_applied.true in
    let header = c.section_count-count.ensures.header in
    let info = ap (λ (s : Section). s.info) c.section.ensures.header in
    let less
    = c.requires.targets i (omega (arith, c.loop-done-test.true, header))
    (is_applied-kind b i applied) in
    omega (arith, info, less, c.loop-done.invariant.first_length, c.loop-done.first.ok.0)

pub loop-done-preserved : goal.loop-done-preserved
loop-done-preserved c =
    let b = c.args.sections.now.file in
    let count = c.section_count-count.result in
    let done = c.loop-done.done in
    let i = count - 1 - done in
    let first = c.loop-done.first.items in
    let next = c.loop-done.next.items in
    let header = c.section_count-count.ensures.header in
    let within : i < section_count b = omega (arith, c.loop-done-test.true, header) in
    let same : count - (done + 1) ≡ i = omega arith in
    let before : count - done ≡ i + 1 = omega (arith, c.loop-done-test.true) in
    let old = rw before at c.loop-done.invariant in
    elim c.if-is_applied.branch [
      | then-is_applied w ↦
          let applied = sym c.is_applied.ensures ∙ w.if-is_applied.true in
          let t = w.section.result.info in
          let info = ap (λ (s : Section). s.info) w.section.ensures.header in
          let less
          = c.requires.targets i within (is_applied-kind b i applied) in
          let inside : t < section_count b = omega (arith, info, less) in
          let long = c.loop-done.invariant.first_length in
          let read = get_or_read first _ _ (omega (arith, long, inside)) w.index.ensures 0 in
          rw (
            ap (λ (v : Vec ℕ Global). v.items) w.first-is,
            ap (λ (v : Vec ℕ Global). v.items) w.next-is,
            same,
            read,
          )
          (AreTargetTables-more b first next i t within applied (sym info) inside old)
      | else-is_applied w ↦
          rw (
            ap (λ (v : Vec ℕ Global). v.items) w.first-is,
            ap (λ (v : Vec ℕ Global). v.items) w.next-is,
            same,
          )
          (AreTargetTables-other b first next i
          (sym c.is_applied.ensures ∙ w.if-is_applied.false) old)
    ]
