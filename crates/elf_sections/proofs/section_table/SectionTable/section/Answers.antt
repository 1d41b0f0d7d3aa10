use Rattle.std.proofs.Common.{◌≡◌, ℕ, ◌<◌, List, [], false, length, map, get_or, sym, ◌∙◌, ap}
use Rattle.std.proofs.Common.{arith}
use Rattle.std.proofs.Math.ListN.{get_or-map}
use Rattle.elf_sections.proofs.ShapeLemmas.{length-read, section_of-within, sections_of-at}
use Rattle.elf_sections.specs.declared.section.Section.{Section}
use Rattle.elf_sections.specs.declared.section.SectionRef.{SectionRef}
use Rattle.elf_sections.specs.Shape.{section_count}
use Rattle.elf_sections.specs.Sections.{FileSections, IsRead, owned_section, section_of}
use Rattle.elf_sections.proofs.section_table.SectionTable.section.Goals as goal

-- a section that is shown is that of the file
shown : (b : List ℕ) (sections : List SectionRef) (i : ℕ) (d : SectionRef)
    → IsRead b (map owned_section sections) → i < section_count b
    → owned_section (get_or sections i d) ≡ section_of b i
shown b sections i d read less =
    sym (get_or-map owned_section sections i d)
    ∙ ap (λ (l : List Section). get_or l i (owned_section d)) read.list_is
    ∙ sections_of-at b i (owned_section d) less

pub returns-clause-header : goal.returns-clause-header
returns-clause-header c =
    let sections = c.self.inside.sections in
    let b = c.self.inside.bytes.now in
    let other : SectionRef
    = record {
      name = record { ref_ptr = (0, 0); now = [] };
      kind = 0;
      flags = 0;
      offset = 0;
      size = 0;
      link = 0;
      info = 0;
      align = 0;
      kept = false;
    } in
    let same = ap (λ (v : FileSections). length v.list) c.self.view_is in
    let count = length-read b (map owned_section sections) c.self.invariant in
    let file = ap (λ (v : FileSections). v.file) c.self.view_is in
    rw c.as_slice.ensures
    (shown b sections c.args.i other c.self.invariant (omega arith)
    ∙ ap (λ b. section_of b c.args.i) file)

pub returns-clause-count : goal.returns-clause-count
returns-clause-count c =
    rw (← c.self.view_is)
    (sym (length-read c.self.inside.bytes.now (map owned_section c.self.inside.sections)
    c.self.invariant))

pub returns-clause-within : goal.returns-clause-within
returns-clause-within c =
    let sections = c.self.inside.sections in
    let b = c.self.inside.bytes.now in
    let i = c.args.i in
    let other : SectionRef
    = record {
      name = record { ref_ptr = (0, 0); now = [] };
      kind = 0;
      flags = 0;
      offset = 0;
      size = 0;
      link = 0;
      info = 0;
      align = 0;
      kept = false;
    } in
    let same = ap (λ (v : FileSections). length v.list) c.self.view_is in
    let count = length-read b (map owned_section sections) c.self.invariant in
    let is = shown b sections i other c.self.invariant (omega arith) in
    let within = section_of-within b i (omega arith) c.self.invariant.within in
    rw (← c.self.view_is, c.as_slice.ensures) (rw (← is) at within)
