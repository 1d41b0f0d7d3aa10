use Rattle.std.proofs.Common.{ℕ, ◌≤◌, length, inl, inr, below_more, arith}
use Rattle.std.proofs.lemmas.Bool.{cases_lt}
use Rattle.elf_sections.specs.Shape.{section_count}
use Rattle.elf_object.specs.Overlap.{changes_at}
use Rattle.elf_object.specs.Places.{overlap_test, places_of}
use Rattle.elf_sections.proofs.TestLemmas.{each-failed, each-passed}
use Rattle.elf_object.proofs.PlaceLemmas.{All-places_of}
use Rattle.elf_object.proofs.TargetLemmas.{overlap_test-apart, overlap_test-shared}
use Rattle.elf_object.proofs.shared.check_shared.Goals as goal

pub returns-then-changed-len-clause-fault : goal.returns-then-changed-len-clause-fault
returns-then-changed-len-clause-fault c =
    let b = c.args.sections.now.file in
    let t = c.loop-target.target in
    let has = c.change_target.ensures.changed in
    let size = c.change_target.new.changed.marks.ok.0 in
    let inside
    = All-places_of b c.requires.read.table c.requires.read.within c.requires.fit
    c.requires.passed in
    inr (each-failed (section_count b) (overlap_test b) t _
    (omega (arith, c.loop-target-test.true, c.section_count-target-end.ensures.header))
    c.loop-target.invariant.tests
    (overlap_test-shared b t c.change_target.new.changed.shared inside
    (has.twice (omega (arith, c.if-changed-len.true, c.len.ensures, size))) has.once))

pub loop-target-preserved : goal.loop-target-preserved
loop-target-preserved c =
    let b = c.args.sections.now.file in
    let t = c.loop-target.target in
    let has = c.change_target.ensures.changed in
    let marks = c.change_target.new.changed.marks.items in
    let size = c.change_target.new.changed.marks.ok.0 in
    let once : (x : ℕ) → changes_at t (places_of b) x ≤ 1
    = λ x. elim (cases_lt x (length marks)) [
      | inl less ↦ has.once x (omega (arith, less, c.if-changed-len.false, c.len.ensures, size))
      | inr far ↦ let none = has.past x far in omega arith
    ] in
    record {
      tests = below_more _ _ c.loop-target.invariant.tests (overlap_test-apart b t once);
      marks = has.bounded;
      mark = c.change_target.ensures.mark;
      room = rw c.change_target.ensures.size c.loop-target.invariant.room;
    }

pub returns-clause-passed : goal.returns-clause-passed
returns-clause-passed c =
    let b = c.args.sections.now.file in
    each-passed (section_count b) (overlap_test b)
    (λ k less. c.loop-target.invariant.tests k
    (omega (arith, less, c.loop-target-test.false, c.section_count-target-end.ensures.header)))
