use Rattle.std.proofs.Common.{sym, ◌∙◌, inl, inr, below_more, arith}
use Rattle.std.proofs.lemmas.Result.{err_from_is_err_and}
use Rattle.elf_sections.specs.Shape.{name_test, section_count}
use Rattle.elf_sections.proofs.ShapeLemmas.{name_test-same}
use Rattle.elf_sections.proofs.TestLemmas.{each-failed, each-passed}
use Rattle.elf_sections.proofs.shape.check_names.Goals as goal

pub returns-in_err-left-clause-fault : goal.returns-in_err-left-clause-fault
returns-in_err-left-clause-fault c =
    let b = c.args.bytes.now in
    let i = c.loop-index.index in
    let p = err_from_is_err_and c.from_residual.result c.from_residual.ensures.1 in
    let same = name_test-same b c.args.names.now i c.requires.names in
    rw (p.1, p.2)
    (elim (rw c.section_header-header.ensures at c.in_err-left.ensures.fault) [
      | inl memory ↦ inl memory
      | inr failed ↦ inr
          (each-failed (section_count b) (name_test b) i _ (omega arith)
          c.loop-index.invariant.tests (sym same ∙ failed))
    ])

pub loop-index-preserved : goal.loop-index-preserved
loop-index-preserved c =
    let b = c.args.bytes.now in
    let i = c.loop-index.index in
    let same = name_test-same b c.args.names.now i c.requires.names in
    let passed = rw c.section_header-header.ensures at c.in_ok-left.ensures.passed in
    record {
      tests = below_more _ _ c.loop-index.invariant.tests (sym same ∙ passed);
      within = let within = c.loop-index.invariant.within in omega arith;
    }

pub returns-clause-passed : goal.returns-clause-passed
returns-clause-passed c =
    let b = c.args.bytes.now in
    each-passed (section_count b) (name_test b)
    (λ k less. c.loop-index.invariant.tests k (omega arith))
