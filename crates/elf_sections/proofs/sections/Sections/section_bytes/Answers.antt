use Rattle.std.proofs.Common.{◌<◌, length, ◌∙◌, ap, arith}
use Rattle.elf_sections.proofs.ShapeLemmas.{bytes_of-slice_get, length-contents, length-read}
use Rattle.elf_sections.specs.Shape.{contents, section_count}
use Rattle.elf_sections.specs.Sections.{FileSections}
use Rattle.elf_sections.proofs.sections.Sections.section_bytes.Goals as goal

pub overflow_cast-i : goal.overflow_cast-i
overflow_cast-i c =
    let count = length-read c.self.inside.bytes c.self.inside.sections c.self.invariant in
    let small = c.self.invariant.table.count in
    let same = ap (λ (v : FileSections). length v.list) c.self.view_is in
    let few : c.args.i < 65280 = omega arith in
    omega arith

pub contents-requires-clause-index : goal.contents-requires-clause-index
contents-requires-clause-index c =
    let count = length-read c.self.inside.bytes c.self.inside.sections c.self.invariant in
    let same = ap (λ (v : FileSections). length v.list) c.self.view_is in
    let bytes = ap section_count c.as_bytes.ensures in
    omega arith

pub returns-clause-bytes : goal.returns-clause-bytes
returns-clause-bytes c =
    let count = length-read c.self.inside.bytes c.self.inside.sections c.self.invariant in
    let same = ap (λ (v : FileSections). length v.list) c.self.view_is in
    let is = rw c.as_bytes.ensures at c.contents.ensures in
    rw (← c.self.view_is, c.self.invariant.list_is)
    (bytes_of-slice_get c.self.inside.bytes c.args.i c.contents.result.now (omega arith) is)

pub returns-clause-header : goal.returns-clause-header
returns-clause-header c =
    rw c.as_bytes.ensures at c.contents.ensures
    ∙ ap (λ (v : FileSections). contents v.file c.args.i) c.self.view_is

pub returns-clause-short : goal.returns-clause-short
returns-clause-short c =
    let file = ap (λ (v : FileSections). length v.file) c.self.view_is in
    let is = ap length c.contents.ensures in
    let short = length-contents c.as_bytes.result.now c.args.i in
    let bytes = ap length c.as_bytes.ensures in
    omega arith
