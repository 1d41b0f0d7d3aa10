use Rattle.std.proofs.Common.{◌∙◌, refl}
use Rattle.elf_sections.specs.Shape.{contents, name_table}
use Rattle.elf_sections.specs.Sections.{section_of}
use Rattle.elf_sections.proofs.ShapeLemmas.{name_in-same}
use Rattle.elf_sections.proofs.section.section_at.Goals as goal

pub returns : goal.returns
unfolding section_of
returns c =
    let b = c.args.bytes.now in
    let h = c.section_header-header.result in
    let name
    = c.section_name-name.ensures
    ∙ name_in-same (contents b (name_table b)) c.args.names.now h.kind h.name
    c.requires.names in
    rw (c.is_kept.ensures, name, c.section_header-header.ensures) refl
