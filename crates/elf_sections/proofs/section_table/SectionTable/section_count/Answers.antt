use Rattle.std.proofs.Common.{◌<◌, sym, ap, ◌∙◌, arith, map}
use Rattle.std.proofs.lemmas.List.{length-map}
use Rattle.elf_sections.proofs.ShapeLemmas.{length-read}
use Rattle.elf_sections.specs.Shape.{section_count}
use Rattle.elf_sections.specs.Sections.{FileSections, owned_section}
use Rattle.elf_sections.proofs.section_table.SectionTable.section_count.Goals as goal

pub overflow_cast-result : goal.overflow_cast-result
overflow_cast-result c =
    let length_is
    = length-read c.self.inside.bytes.now (map owned_section c.self.inside.sections)
    c.self.invariant in
    let same = length-map c.self.inside.sections owned_section in
    let small = c.self.invariant.table.count in
    let few : c.len.result < 65280 = omega arith in
    omega arith

pub returns-clause-header : goal.returns-clause-header
returns-clause-header c =
    c.len.ensures ∙ sym (length-map c.self.inside.sections owned_section)
    ∙ length-read c.self.inside.bytes.now (map owned_section c.self.inside.sections)
    c.self.invariant
    ∙ ap (λ (v : FileSections). section_count v.file) c.self.view_is

pub returns-clause-some : goal.returns-clause-some
returns-clause-some c =
    let length_is
    = length-read c.self.inside.bytes.now (map owned_section c.self.inside.sections)
    c.self.invariant in
    let same = length-map c.self.inside.sections owned_section in
    let names = c.self.invariant.table.names in
    omega arith

pub returns-clause-few : goal.returns-clause-few
returns-clause-few c =
    let length_is
    = length-read c.self.inside.bytes.now (map owned_section c.self.inside.sections)
    c.self.invariant in
    let same = length-map c.self.inside.sections owned_section in
    let small = c.self.invariant.table.count in
    omega arith

pub returns-clause-read : goal.returns-clause-read
returns-clause-read c = rw (← c.self.view_is) c.self.invariant
