use Rattle.std.proofs.Common.{◌<◌, length, ap, arith, map}
use Rattle.elf_sections.proofs.ShapeLemmas.{length-read}
use Rattle.elf_sections.specs.Sections.{FileSections, owned_section}
use Rattle.elf_sections.proofs.section_table.SectionTable.entry_size.Goals as goal

pub overflow_cast-i : goal.overflow_cast-i
overflow_cast-i c =
    let count
    = length-read c.self.inside.bytes.now (map owned_section c.self.inside.sections)
    c.self.invariant in
    let small = c.self.invariant.table.count in
    let same = ap (λ (v : FileSections). length v.list) c.self.view_is in
    let few : c.args.i < 65280 = omega arith in
    omega arith

pub section_header-requires-clause-index : goal.section_header-requires-clause-index
section_header-requires-clause-index c =
    let count
    = length-read c.self.inside.bytes.now (map owned_section c.self.inside.sections)
    c.self.invariant in
    let same = ap (λ (v : FileSections). length v.list) c.self.view_is in
    omega arith
