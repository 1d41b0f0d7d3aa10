-- The sections of an object file. gABI 4, "Sections".
use Rattle.std.specs.Prelude.{◌≡◌, ℕ, List, map, None}
use Rattle.std.specs.List.{range_with_len}
use Rattle.elf_sections.specs.declared.section.Section.{Section}
use Rattle.elf_sections.specs.declared.section.SectionRef.{SectionRef}
use Rattle.elf_sections.specs.Shape.{AllInFile, HasTable, content, is_kept, name_in, name_table}
use Rattle.elf_sections.specs.Shape.{section_count, section_header, shape_fault, contents}

-- A section with a borrowed name, as one with a name of its own. gABI 4, "Sections", Elf64_Shdr.
abbrev pub owned_section : SectionRef → Section
owned_section s = record {
  name = s.name.now;
  kind = s.kind;
  flags = s.flags;
  offset = s.offset;
  size = s.size;
  link = s.link;
  info = s.info;
  align = s.align;
  kept = s.kept;
}

-- The section i of the file.
unfoldable pub section_of : List ℕ → ℕ → Section
section_of b i =
    let h = section_header b i in
    let text = name_in (contents b (name_table b)) h.kind h.name in
    record {
      name = text;
      kind = h.kind;
      flags = h.flags;
      offset = h.offset;
      size = h.size;
      link = h.link;
      info = h.info;
      align = h.align;
      kept = is_kept h.kind h.flags text;
    }

-- The size of an entry of the section i, if it is a table. gABI 4, "Sections", sh_entsize.
abbrev pub entry_size : List ℕ → ℕ → ℕ
entry_size b i = (section_header b i).entry_size

-- The sections of the file, by rising number.
unfoldable pub sections_of : List ℕ → List Section
sections_of b = map (section_of b) (range_with_len 0 (section_count b))

-- A file with its sections.
pub record FileSections : Type 0 where
  pub file : List ℕ
  pub list : List Section

-- A file with its sections, computed from its bytes.
abbrev pub file_sections : List ℕ → FileSections
file_sections b = record { file = b; list = sections_of b }

-- The bytes of a section in its file.
abbrev pub bytes_of : List ℕ → Section → List ℕ
bytes_of file s = content file s.kind s.offset s.size

-- The file passed the tests of its shape, the list has its sections, and these lie in it.
pub record IsRead (file : List ℕ) (list : List Section) : Type 0 where
  pub passed : shape_fault file ≡ None
  pub list_is : list ≡ sections_of file
  pub table : HasTable file
  pub within : AllInFile file
