use Rattle.std.proofs.Common.{ap, ◌∙◌, inl, inr}
use Rattle.std.proofs.lemmas.Result.{err_from_is_err_and}
use Rattle.elf_sections.specs.Sections.{FileSections}
use Rattle.elf_object.proofs.ObjectLemmas.{IsLoadable-passed}
use Rattle.elf_object.proofs.object.read_lists.Goals as goal

pub returns-in_err-places-clause-fault : goal.returns-in_err-places-clause-fault
returns-in_err-places-clause-fault c =
    let p
    = err_from_is_err_and c.from_residual-in_err-places.result
    c.from_residual-in_err-places.ensures.1 in
    let file = ap (λ (v : FileSections). v.file) c.in_ok-parts.ensures.sections in
    rw (p.1, p.2)
    (elim c.in_err-places.ensures.fault [
      | inl memory ↦ inl memory
      | inr failed ↦ inr (c.in_ok-parts.ensures.left ∙ rw file at failed)
    ])

pub returns-clause-passed : goal.returns-clause-passed
returns-clause-passed c =
    let file = ap (λ (v : FileSections). v.file) c.in_ok-parts.ensures.sections in
    c.in_ok-parts.ensures.left ∙ rw file at c.in_ok-places.ensures.passed

pub returns-clause-loadable : goal.returns-clause-loadable
returns-clause-loadable c =
    let file = ap (λ (v : FileSections). v.file) c.in_ok-parts.ensures.sections in
    IsLoadable-passed c.args.bytes.now c.in_ok-parts.ensures.read c.in_ok-parts.ensures.fit
    c.in_ok-parts.ensures.passed
    (rw file at c.in_ok-places.ensures.passed)
