use Rattle.std.proofs.Common.{◌<◌, length, ◌∙◌, ap, arith, map}
use Rattle.elf_sections.proofs.ShapeLemmas.{bytes_of-slice_get, length-contents, length-read}
use Rattle.elf_sections.specs.Shape.{contents}
use Rattle.elf_sections.specs.Sections.{FileSections, owned_section}
use Rattle.elf_sections.proofs.section_table.SectionTable.section_bytes.Goals as goal

pub overflow_cast-i : goal.overflow_cast-i
overflow_cast-i c =
    let count
    = length-read c.self.inside.bytes.now (map owned_section c.self.inside.sections)
    c.self.invariant in
    let small = c.self.invariant.table.count in
    let same = ap (λ (v : FileSections). length v.list) c.self.view_is in
    let few : c.args.i < 65280 = omega arith in
    omega arith

pub contents-requires-clause-index : goal.contents-requires-clause-index
contents-requires-clause-index c =
    let count
    = length-read c.self.inside.bytes.now (map owned_section c.self.inside.sections)
    c.self.invariant in
    let same = ap (λ (v : FileSections). length v.list) c.self.view_is in
    omega arith

pub returns-clause-bytes : goal.returns-clause-bytes
returns-clause-bytes c =
    let count
    = length-read c.self.inside.bytes.now (map owned_section c.self.inside.sections)
    c.self.invariant in
    let same = ap (λ (v : FileSections). length v.list) c.self.view_is in
    let is = c.contents.ensures in
    rw (← c.self.view_is, c.self.invariant.list_is)
    (bytes_of-slice_get c.self.inside.bytes.now c.args.i c.contents.result.now (omega arith) is)

pub returns-clause-header : goal.returns-clause-header
returns-clause-header c =
    c.contents.ensures ∙ ap (λ (v : FileSections). contents v.file c.args.i) c.self.view_is

pub returns-clause-short : goal.returns-clause-short
returns-clause-short c =
    let file = ap (λ (v : FileSections). length v.file) c.self.view_is in
    let is = ap length c.contents.ensures in
    let short = length-contents c.self.inside.bytes.now c.args.i in
    omega arith
