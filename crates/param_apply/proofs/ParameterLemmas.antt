-- The texts of a module's section `.modinfo`.
use Rattle.std.proofs.Common.{◌≡◌, ◌<◌, ◌∙◌, ℕ, true, List, [], Some, None, refl, sym, length, inl}
use Rattle.std.proofs.Common.{inr}
use Rattle.std.specs.Prelude.{codes, slice_get, IfSome, ◌==◌}
use Rattle.std.specs.List.{position}
use Rattle.std.specs.Str.{bytes_eq}
use Rattle.std.proofs.lemmas.Bool.{cases_Bool, eqb-true}
use Rattle.elf_format.specs.declared.section.TheConstants.{SHT_NOBITS}
use Rattle.elf_sections.specs.declared.section.Section.{Section}
use Rattle.elf_object.specs.Object.{FileObject}
use Rattle.elf_sections.specs.Sections.{bytes_of}
use Rattle.elf_sections.specs.Shape.{content}
use Rattle.module_symbols.specs.Contents.{modinfo_bytes, named_bytes, named_section}
use Rattle.image_layout.proofs.PieceLemmas.{item-at}

-- A section without bytes in the file.
no-bytes : (file : List ℕ) (s : Section) → (s.kind == SHT_NOBITS) ≡ true → bytes_of file s ≡ []
unfolding content
no-bytes file s is = let kind : s.kind ≡ 8 = eqb-true s.kind 8 is in rw kind refl

modinfo-at : (o : FileObject) (i : ℕ) (s : Section)
    → position (λ t. bytes_eq t.name (codes ".modinfo")) o.sections ≡ Some i
    → slice_get o.sections i ≡ Some s → bytes_of o.file s ≡ modinfo_bytes o
unfolding modinfo_bytes named_bytes named_section
modinfo-at o i s first is =
    elim (cases_Bool (s.kind == SHT_NOBITS)) [
      | inl none ↦ no-bytes o.file s none ∙ sym (rw (first, is, none) refl)
      | inr some ↦ sym (rw (first, is, some) refl)
    ]

pub modinfo-some : (o : FileObject) (i : ℕ) (bytes : List ℕ)
    → position (λ t. bytes_eq t.name (codes ".modinfo")) o.sections ≡ Some i → i < length o.sections
    → IfSome (slice_get o.sections i) (λ s. bytes ≡ bytes_of o.file s) → bytes ≡ modinfo_bytes o
modinfo-some o i bytes first within are =
    let s = item-at o.sections i within in
    let here : bytes ≡ bytes_of o.file s.0 = rw s.1 at are in
    here ∙ modinfo-at o i s.0 first s.1

pub modinfo-none : (o : FileObject)
    → position (λ t. bytes_eq t.name (codes ".modinfo")) o.sections ≡ None → [] ≡ modinfo_bytes o
unfolding modinfo_bytes named_bytes named_section
modinfo-none o first = sym (rw first refl)
