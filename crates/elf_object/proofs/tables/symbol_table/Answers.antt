use Rattle.std.proofs.Common.{ap, sym, arith}
use Rattle.elf_sections.specs.declared.section.Section.{Section}
use Rattle.elf_object.proofs.TableLemmas.{symbol_table-found, symbol_table-none}
use Rattle.elf_object.proofs.tables.symbol_table.Goals as goal

pub returns-then-section-eq-SHT_SYMTAB : goal.returns-then-section-eq-SHT_SYMTAB
returns-then-section-eq-SHT_SYMTAB c =
    let b = c.args.sections.now.file in
    sym (symbol_table-found b c.loop-index.index (omega arith) c.loop-index.invariant
    (rw (ap (λ (s : Section). s.kind) c.section.ensures.header) at c.if-section-eq-SHT_SYMTAB.true))

pub returns : goal.returns
returns c =
    sym (symbol_table-none c.args.sections.now.file
    (λ k less. c.loop-index.invariant k (omega arith)))
