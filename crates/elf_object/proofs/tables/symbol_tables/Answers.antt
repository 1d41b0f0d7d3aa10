use Rattle.std.proofs.Common.{◌<◌, ap, sym, ◌∙◌, arith}
use Rattle.elf_sections.specs.declared.section.Section.{Section}
use Rattle.elf_sections.specs.Shape.{section_count}
use Rattle.elf_sections.proofs.ShapeLemmas.{length-read}
use Rattle.elf_object.proofs.TableLemmas.{symbol_bytes-at, symbol_bytes-none, symbol_names-at}
use Rattle.elf_object.proofs.TableLemmas.{symbol_names-none}
use Rattle.elf_object.proofs.tables.symbol_tables.Goals as goal

pub section-names-requires : goal.section-names-requires
section-names-requires c =
    let b = c.args.sections.now.file in
    let count = length-read b c.args.sections.now.list c.requires.read in
    let less : c.in-Some.table < section_count b
    = c.requires.fit.table c.in-Some.table (sym c.requires.symbols ∙ c.in-Some.is) in
    omega arith

pub returns-in-Some-clause-bytes : goal.returns-in-Some-clause-bytes
returns-in-Some-clause-bytes c =
    c.section_bytes.ensures.header
    ∙ sym (symbol_bytes-at c.args.sections.now.file c.in-Some.table
    (sym c.requires.symbols ∙ c.in-Some.is))

pub returns-in-Some-clause-names : goal.returns-in-Some-clause-names
returns-in-Some-clause-names c =
    rw (ap (λ (s : Section). s.link) c.section-names.ensures.header) at
    c.section_bytes-in-Some.ensures.header
    ∙ sym (symbol_names-at c.args.sections.now.file c.in-Some.table
    (sym c.requires.symbols ∙ c.in-Some.is))

pub returns-in-None-clause-bytes : goal.returns-in-None-clause-bytes
returns-in-None-clause-bytes c =
    sym (symbol_bytes-none c.args.sections.now.file (sym c.requires.symbols ∙ c.in-None.is))

pub returns-in-None-clause-names : goal.returns-in-None-clause-names
returns-in-None-clause-names c =
    sym (symbol_names-none c.args.sections.now.file (sym c.requires.symbols ∙ c.in-None.is))
