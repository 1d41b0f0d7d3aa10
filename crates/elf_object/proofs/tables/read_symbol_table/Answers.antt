use Rattle.std.proofs.Common.{◌≡◌, Some, map, ◌⊎◌, sym, ap, ◌∙◌, inl, inr}
use Rattle.std.proofs.lemmas.Result.{IfErr-weaker, IfOk-weaker, err_from_is_err_and, on_ok_weaker}
use Rattle.km_names.specs.First.{first}
use Rattle.elf_object.specs.declared.fault.ObjectFault.TheVariants.{Memory}
use Rattle.elf_sections.specs.Shape.{each, section_count}
use Rattle.elf_object.specs.Symbols.{entries, owned_symbol, symbol_bytes, symbol_names}
use Rattle.elf_object.specs.Symbols.{symbol_test_in, symbol_tests, symbols_in, symbols_of}
use Rattle.elf_object.proofs.ObjectLemmas.{symbol_tests-rel, symbol_tests-symbols}
use Rattle.elf_object.proofs.ObjectLemmas.{symbol_tests-tables}
use Rattle.elf_object.proofs.SymbolLemmas.{symbol_tests-same, symbols_in-same}
use Rattle.elf_object.proofs.tables.read_symbol_table.Goals as goal
use Rattle.elf_object.proofs.tables.read_symbol_table.Goals.{After-read_symbols}

pub returns-in_err-check_rel-clause-fault : goal.returns-in_err-check_rel-clause-fault
returns-in_err-check_rel-clause-fault c =
    let p = err_from_is_err_and c.from_residual.result c.from_residual.ensures.1 in
    rw (p.1, p.2)
    (inr (symbol_tests-rel c.args.sections.now.file _ (sym c.in_err-check_rel.ensures)))

pub returns-in_err-check_tables-clause-fault : goal.returns-in_err-check_tables-clause-fault
returns-in_err-check_tables-clause-fault c =
    let p
    = err_from_is_err_and c.from_residual-in_err-check_tables.result
    c.from_residual-in_err-check_tables.ensures.1 in
    rw (p.1, p.2)
    (inr (symbol_tests-tables c.args.sections.now.file _ (sym c.in_ok-check_rel.ensures)
    (sym c.in_err-check_tables.ensures.fault)))

-- what is left to test once the tables are: the symbols, by the string table up to its last NUL
symbols_left : (c : After-read_symbols)
    → first (symbol_tests c.args.sections.now.file)
    ≡ first (each (entries (symbol_bytes c.args.sections.now.file))
    (symbol_test_in (symbol_bytes c.args.sections.now.file)
    c.up_to_last_nul-names.result.now (section_count c.args.sections.now.file)))
symbols_left c =
    let b = c.args.sections.now.file in
    let strings = rw c.symbol_tables.ensures.names at c.up_to_last_nul-names.ensures in
    symbol_tests-symbols b (sym c.in_ok-check_rel.ensures) (sym c.in_ok-check_tables.ensures.fault)
    ∙ sym (ap first
    (symbol_tests-same (symbol_bytes b) (symbol_names b) c.up_to_last_nul-names.result.now
    (section_count b) strings))

pub returns-clause-symbols : goal.returns-clause-symbols
unfolding symbols_of
returns-clause-symbols c =
    let b = c.args.sections.now.file in
    let names = c.up_to_last_nul-names.result.now in
    let strings = rw c.symbol_tables.ensures.names at c.up_to_last_nul-names.ensures in
    let same = symbols_in-same (symbol_bytes b) (symbol_names b) names strings in
    IfOk-weaker c.read_symbols.result (λ l. map owned_symbol l ≡ symbols_in (symbol_bytes b) names)
    (λ l. map owned_symbol l ≡ symbols_in (symbol_bytes b) (symbol_names b))
    (λ l is. is ∙ same)
    (rw c.symbol_tables.ensures.bytes at c.read_symbols.ensures.symbols)

pub returns-clause-passed : goal.returns-clause-passed
returns-clause-passed c =
    let passed
    = rw (c.symbol_tables.ensures.bytes, c.section_count-count.ensures.header) at
    c.read_symbols.ensures.passed in
    on_ok_weaker c.read_symbols.result (λ p. symbols_left c ∙ p) passed

pub returns-clause-fault : goal.returns-clause-fault
returns-clause-fault c =
    let b = c.args.sections.now.file in
    let names = c.up_to_last_nul-names.result.now in
    let fault
    = rw (c.symbol_tables.ensures.bytes, c.section_count-count.ensures.header) at
    c.read_symbols.ensures.fault in
    IfErr-weaker c.read_symbols.result
    (λ e. (e ≡ Memory)
    ⊎ (first (each (entries (symbol_bytes b))
    (symbol_test_in (symbol_bytes b) names (section_count b)))
    ≡ Some e))
    (λ e. (e ≡ Memory) ⊎ (first (symbol_tests b) ≡ Some e))
    (λ e h. elim h [ inl memory ↦ inl memory | inr failed ↦ inr (symbols_left c ∙ failed) ])
    fault
