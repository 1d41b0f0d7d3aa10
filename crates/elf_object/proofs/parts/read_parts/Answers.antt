use Rattle.std.proofs.Common.{ap, ◌∙◌, inl, inr}
use Rattle.std.proofs.lemmas.Result.{err_from_is_err_and}
use Rattle.elf_sections.specs.Sections.{FileSections}
use Rattle.elf_object.proofs.ObjectLemmas.{content_tests-places, content_tests-symbols}
use Rattle.elf_object.proofs.ObjectLemmas.{object_fault-content, object_fault-from}
use Rattle.elf_object.proofs.parts.read_parts.Goals as goal

pub returns-in_err-table-clause-fault : goal.returns-in_err-table-clause-fault
returns-in_err-table-clause-fault c =
    let p = err_from_is_err_and c.from_residual.result c.from_residual.ensures.1 in
    rw (p.1, p.2) (object_fault-from c.args.bytes.now _ c.in_err-table.ensures.fault)

pub returns-in_err-symbols-clause-fault : goal.returns-in_err-symbols-clause-fault
returns-in_err-symbols-clause-fault c =
    let b = c.args.bytes.now in
    let p
    = err_from_is_err_and c.from_residual-in_err-symbols.result
    c.from_residual-in_err-symbols.ensures.1 in
    let file = ap (λ (v : FileSections). v.file) c.in_ok-table.ensures.sections in
    let left = object_fault-content b c.in_ok-table.ensures.read.passed in
    rw (p.1, p.2)
    (elim c.in_err-symbols.ensures.fault [
      | inl memory ↦ inl memory
      | inr failed ↦ inr (left ∙ content_tests-symbols b _ (rw file at failed))
    ])

pub returns-clause-left : goal.returns-clause-left
returns-clause-left c =
    let b = c.args.bytes.now in
    let file = ap (λ (v : FileSections). v.file) c.in_ok-table.ensures.sections in
    object_fault-content b c.in_ok-table.ensures.read.passed
    ∙ content_tests-places b (rw file at c.in_ok-symbols.ensures.passed)
