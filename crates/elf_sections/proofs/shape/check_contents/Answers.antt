use Rattle.std.proofs.Common.{sym, arith}
use Rattle.std.proofs.lemmas.Result.{err_from_is_err_and}
use Rattle.elf_sections.specs.Shape.{content_test, section_count}
use Rattle.elf_sections.proofs.TestLemmas.{each-failed, each-passed}
use Rattle.elf_sections.proofs.shape.check_contents.Goals as goal

pub returns-in_err-check_content-clause-fault : goal.returns-in_err-check_content-clause-fault
returns-in_err-check_content-clause-fault c =
    let b = c.args.bytes.now in
    let p = err_from_is_err_and c.from_residual.result c.from_residual.ensures.1 in
    rw (p.1, p.2)
    (sym (each-failed (section_count b) (content_test b) c.loop-index.index _ (omega arith)
    c.loop-index.invariant.tests (sym c.in_err-check_content.ensures.fault)))

pub returns-clause-fault : goal.returns-clause-fault
returns-clause-fault c =
    let b = c.args.bytes.now in
    sym (each-passed (section_count b) (content_test b)
    (λ k less. c.loop-index.invariant.tests k (omega arith)))
