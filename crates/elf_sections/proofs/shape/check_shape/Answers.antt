use Rattle.std.proofs.Common.{◌≡◌, ℕ, List, Some, None, ◌⊎◌, refl, sym, ◌∙◌, inl, inr}
use Rattle.std.proofs.lemmas.Result.{IfErr-weaker, err_from_is_err_and, on_ok_weaker}
use Rattle.elf_sections.proofs.ShapeLemmas.{shape_fault-header, shape_fault-names}
use Rattle.elf_sections.proofs.ShapeLemmas.{shape_fault-places}
use Rattle.km_names.specs.First.{first}
use Rattle.elf_sections.specs.declared.fault.SectionFault.TheVariants.{Memory}
use Rattle.elf_sections.specs.Shape.{AllInFile, HasTable, each, header_tests, name_table_test}
use Rattle.elf_sections.specs.Shape.{name_test, content_test, section_count, shape_fault}
use Rattle.elf_sections.specs.Sections.{IsRead, sections_of}
use Rattle.elf_sections.proofs.shape.check_shape.Goals as goal

pub returns-in_err-check_header-clause-fault : goal.returns-in_err-check_header-clause-fault
returns-in_err-check_header-clause-fault c =
    let b = c.args.bytes.now in
    let p = err_from_is_err_and c.from_residual.result c.from_residual.ensures.1 in
    rw (p.1, p.2) (inr (shape_fault-header b _ (sym c.in_err-check_header.ensures.fault)))

pub returns-in_err-check_contents-clause-fault : goal.returns-in_err-check_contents-clause-fault
returns-in_err-check_contents-clause-fault c =
    let b = c.args.bytes.now in
    let p
    = err_from_is_err_and c.from_residual-in_err-check_contents.result
    c.from_residual-in_err-check_contents.ensures.1 in
    rw (p.1, p.2)
    (inr (shape_fault-places b _ (sym c.in_ok-check_header.ensures.fault)
    (sym c.in_err-check_contents.ensures.fault)))

pub returns-in_err-check_name_table-clause-fault : goal.returns-in_err-check_name_table-clause-fault
returns-in_err-check_name_table-clause-fault c =
    let b = c.args.bytes.now in
    let p
    = err_from_is_err_and c.from_residual-in_err-check_name_table.result
    c.from_residual-in_err-check_name_table.ensures.1 in
    let names
    = shape_fault-names b (sym c.in_ok-check_header.ensures.fault)
    (sym c.in_ok-check_contents.ensures.fault) in
    rw (p.1, p.2) (inr (rw (← c.in_err-check_name_table.ensures) at names))

-- what is left to test once the header, the places and the table of names are
names_left : (b : List ℕ) → first (header_tests b) ≡ None
    → first (each (section_count b) (content_test b)) ≡ None → name_table_test b ≡ None
    → shape_fault b ≡ first (each (section_count b) (name_test b))
names_left b header places table =
    let names = shape_fault-names b header places in
    rw table at names

-- the sections of a file that passed its tests
is_read : (b : List ℕ) → shape_fault b ≡ None → HasTable b → AllInFile b → IsRead b (sections_of b)
is_read b passed table within =
    record { passed = passed; list_is = refl; table = table; within = within }

pub returns-clause-read : goal.returns-clause-read
returns-clause-read c =
    let b = c.args.bytes.now in
    let left
    = names_left b (sym c.in_ok-check_header.ensures.fault)
    (sym c.in_ok-check_contents.ensures.fault) (sym c.in_ok-check_name_table.ensures) in
    on_ok_weaker c.check_names.result
    (λ passed. is_read b (left ∙ passed) c.in_ok-check_header.ensures.table
    c.in_ok-check_contents.ensures.within)
    c.check_names.ensures.passed

pub returns-clause-fault : goal.returns-clause-fault
returns-clause-fault c =
    let b = c.args.bytes.now in
    let left
    = names_left b (sym c.in_ok-check_header.ensures.fault)
    (sym c.in_ok-check_contents.ensures.fault) (sym c.in_ok-check_name_table.ensures) in
    IfErr-weaker c.check_names.result
    (λ e. (e ≡ Memory) ⊎ (first (each (section_count b) (name_test b)) ≡ Some e))
    (λ e. (e ≡ Memory) ⊎ (shape_fault b ≡ Some e))
    (λ e h. elim h [ inl memory ↦ inl memory | inr failed ↦ inr (left ∙ failed) ])
    c.check_names.ensures.fault
