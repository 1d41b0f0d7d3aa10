use Rattle.std.proofs.Common.{◌<◌, ap, ◌∙◌, arith}
use Rattle.elf_sections.proofs.ShapeLemmas.{length-read}
use Rattle.elf_sections.specs.Shape.{section_count}
use Rattle.elf_sections.specs.Sections.{FileSections}
use Rattle.elf_sections.proofs.sections.Sections.section_count.Goals as goal

pub overflow_cast-result : goal.overflow_cast-result
overflow_cast-result c =
    let length_is = length-read c.self.inside.bytes c.self.inside.sections c.self.invariant in
    let small = c.self.invariant.table.count in
    let few : c.len.result < 65280 = omega arith in
    omega arith

pub returns-clause-header : goal.returns-clause-header
returns-clause-header c =
    c.len.ensures ∙ length-read c.self.inside.bytes c.self.inside.sections c.self.invariant
    ∙ ap (λ (v : FileSections). section_count v.file) c.self.view_is

pub returns-clause-some : goal.returns-clause-some
returns-clause-some c =
    let length_is = length-read c.self.inside.bytes c.self.inside.sections c.self.invariant in
    let names = c.self.invariant.table.names in
    omega arith

pub returns-clause-few : goal.returns-clause-few
returns-clause-few c =
    let length_is = length-read c.self.inside.bytes c.self.inside.sections c.self.invariant in
    let small = c.self.invariant.table.count in
    omega arith

pub returns-clause-read : goal.returns-clause-read
returns-clause-read c = rw (← c.self.view_is) c.self.invariant
