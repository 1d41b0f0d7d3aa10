-- An object file of sections. gABI 4, "ELF Header", "Sections".
use Rattle.std.specs.Prelude.{ℕ, ◌+◌, ◌-◌, ◌%◌, List, [], ◌∷◌, ◌++◌, length, fold}
use Rattle.elf_format.specs.declared.file_header.TheConstants.{ELFCLASS64, ELFDATA2LSB, EV_CURRENT}
use Rattle.elf_format.specs.declared.file_header.TheConstants.{ET_REL, EM_X86_64, EHDR_SIZE}
use Rattle.elf_format.specs.declared.file_header.TheConstants.{SHDR_SIZE}
use Rattle.elf_write.specs.declared.part.Attributes.{Attributes}
use Rattle.elf_write.specs.declared.part.Part.{Part}
use Rattle.elf_write.specs.Number.{half, word, xword, zeros, with_nul}

-- The number of zeros up to the next multiple of 8.
abbrev pub gap : ℕ → ℕ
gap at = (8 - at % 8) % 8

-- The file header, by the place of the section header table, the count of sections and the number
-- of the section that has their names. Elf64_Ehdr.
unfoldable pub header : ℕ → ℕ → ℕ → List ℕ
header table count named =
    0x7f ∷ 0x45 ∷ 0x4c ∷ 0x46 ∷ ELFCLASS64 ∷ ELFDATA2LSB ∷ EV_CURRENT ∷ zeros 9
    ++ half ET_REL ++ half EM_X86_64 ++ word EV_CURRENT
    ++ zeros 16 ++ xword table
    ++ zeros 4 ++ half EHDR_SIZE ++ zeros 4 ++ half SHDR_SIZE ++ half count ++ half named

-- A section header: the place of the section's name among the names of sections, its attributes,
-- the place of its content in the file, and the content's length. Elf64_Shdr.
unfoldable pub section_header : ℕ → Attributes → ℕ → ℕ → List ℕ
section_header name a at size =
    word name ++ word a.kind ++ xword a.flags ++ zeros 8 ++ xword at
    ++ xword size ++ word a.link ++ word a.info ++ xword a.align
    ++ xword a.entry_size

-- Sections in a file: the bytes after the file header, the section headers, and the names of
-- sections.
pub record Laid : Type 0 where
  pub contents : List ℕ
  pub headers : List ℕ
  pub names : List ℕ

-- Section 0: it has no content, a header of zeros, and no name.
abbrev pub start : Laid
start = record { contents = []; headers = zeros SHDR_SIZE; names = 0 ∷ [] }

-- The sections with one more. Its content begins at the next multiple of 8, its header has the
-- places of content and name, and its name follows the others.
unfoldable pub with_part : Laid → Part → Laid
with_part l p =
    let at = EHDR_SIZE + length l.contents in
    record {
      contents = l.contents ++ zeros (gap at) ++ p.content;
      headers
          = l.headers
          ++ section_header (length l.names) p.attributes (at + gap at) (length p.content);
      names = l.names ++ with_nul p.name;
    }

-- The sections from 1 on.
abbrev pub laid : List Part → Laid
laid parts = fold with_part start parts

-- The file of these sections. The section of this number has their names. It has the header, the
-- contents, and the section header table at the next multiple of 8.
unfoldable pub file_of : ℕ → List Part → List ℕ
file_of named parts =
    let l = laid parts in
    let end = EHDR_SIZE + length l.contents in
    header (end + gap end) (1 + length parts) named ++ l.contents ++ zeros (gap end) ++ l.headers
