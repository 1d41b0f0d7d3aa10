use Rattle.std.proofs.Common.{length, sym, ◌∙◌, ap, arith}
use Rattle.elf_sections.proofs.ShapeLemmas.{length-read, section_of-within, sections_of-at}
use Rattle.elf_sections.specs.Sections.{FileSections, section_of}
use Rattle.elf_sections.proofs.sections.Sections.section.Goals as goal

pub returns-clause-header : goal.returns-clause-header
returns-clause-header c =
    let same = ap (λ (v : FileSections). length v.list) c.self.view_is in
    let count = length-read c.self.inside.bytes c.self.inside.sections c.self.invariant in
    let file = ap (λ (v : FileSections). v.file) c.self.view_is in
    let is = rw (c.as_slice.ensures, c.self.invariant.list_is) at c.index-as_slice-i.is in
    is ∙ sections_of-at c.self.inside.bytes c.args.i c.index-as_slice-i.result (omega arith)
    ∙ ap (λ b. section_of b c.args.i) file

pub returns-clause-count : goal.returns-clause-count
returns-clause-count c =
    rw (← c.self.view_is)
    (sym (length-read c.self.inside.bytes c.self.inside.sections c.self.invariant))

pub returns-clause-within : goal.returns-clause-within
returns-clause-within c =
    let same = ap (λ (v : FileSections). length v.list) c.self.view_is in
    let count = length-read c.self.inside.bytes c.self.inside.sections c.self.invariant in
    let is = rw (c.as_slice.ensures, c.self.invariant.list_is) at c.index-as_slice-i.is in
    let at
    = is
    ∙ sections_of-at c.self.inside.bytes c.args.i c.index-as_slice-i.result (omega arith) in
    rw (at, ← c.self.view_is)
    (section_of-within c.self.inside.bytes c.args.i (omega arith) c.self.invariant.within)
