use Rattle.std.proofs.Common.{sym, ◌∙◌, arith}
use Rattle.elf_sections.specs.Shape.{section_count}
use Rattle.elf_object.specs.Symbols.{table_test}
use Rattle.elf_sections.proofs.TestLemmas.{each-failed, each-passed}
use Rattle.elf_object.proofs.TableLemmas.{TablesFit-good, table_test-failed, table_test-passed}
use Rattle.elf_object.proofs.tables.check_tables.Goals as goal

pub returns-then-not-is_good_table-clause-fault : goal.returns-then-not-is_good_table-clause-fault
returns-then-not-is_good_table-clause-fault c =
    let b = c.args.sections.now.file in
    let i = c.loop-index.index in
    sym (each-failed (section_count b) (table_test b) i _ (omega arith)
    (λ k less. table_test-passed b k (c.loop-index.invariant k less))
    (table_test-failed b i (sym c.is_good_table.ensures ∙ c.if-not-is_good_table.true)))

pub returns-clause-fault : goal.returns-clause-fault
returns-clause-fault c =
    let b = c.args.sections.now.file in
    sym (each-passed (section_count b) (table_test b)
    (λ k less. table_test-passed b k (c.loop-index.invariant k (omega arith))))

pub returns-clause-fit : goal.returns-clause-fit
returns-clause-fit c =
    TablesFit-good c.args.sections.now.file (λ i less. c.loop-index.invariant i (omega arith))
