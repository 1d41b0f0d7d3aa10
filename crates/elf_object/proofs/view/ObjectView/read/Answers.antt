use Rattle.std.proofs.Common.{refl, ap, ◌∙◌, inl, inr}
use Rattle.std.proofs.lemmas.Result.{err_from_is_err_and}
use Rattle.elf_sections.specs.Sections.{FileSections}
use Rattle.elf_object.proofs.ObjectLemmas.{IsLoadable-passed, length-symbols_of}
use Rattle.elf_object.proofs.view.ObjectView.read.Goals as goal

pub returns-in_err-check_places-clause-fault : goal.returns-in_err-check_places-clause-fault
returns-in_err-check_places-clause-fault c =
    let p
    = err_from_is_err_and c.from_residual-in_err-check_places.result
    c.from_residual-in_err-check_places.ensures.1 in
    let file = ap (λ (v : FileSections). v.file) c.in_ok-parts.ensures.sections in
    rw (p.1, p.2)
    (elim c.in_err-check_places.ensures.fault [
      | inl memory ↦ inl memory
      | inr failed ↦ inr (c.in_ok-parts.ensures.left ∙ rw file at failed)
    ])

pub returns-clause-passed : goal.returns-clause-passed
returns-clause-passed c =
    let file = ap (λ (v : FileSections). v.file) c.in_ok-parts.ensures.sections in
    c.in_ok-parts.ensures.left ∙ rw file at c.in_ok-check_places.ensures.passed

pub invariant_of-result : goal.invariant_of-result
invariant_of-result c =
    let b = c.args.bytes.now in
    let file = ap (λ (v : FileSections). v.file) c.in_ok-parts.ensures.sections in
    let list = ap (λ (v : FileSections). v.list) c.in_ok-parts.ensures.sections in
    let loadable
    = IsLoadable-passed b c.in_ok-parts.ensures.read c.in_ok-parts.ensures.fit
    c.in_ok-parts.ensures.passed (rw file at c.in_ok-check_places.ensures.passed) in
    rw (file, list, c.in_ok-parts.ensures.symbols)
    (record {
      listed = refl;
      small = c.requires;
      few = length-symbols_of b c.requires;
      loadable = loadable;
    })
