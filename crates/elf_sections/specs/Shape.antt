-- The sections of an object file, and the tests that a file with sections passes.
-- gABI 4, "Object Files": "ELF Header", "Sections", "String Table".
use Rattle.std.specs.Prelude.{ℕ, ◌+◌, ◌*◌, ◌<◌, ◌≤◌, ◌==◌, ◌&&◌, ◌||◌, nat_eq, nat_lt, not, Bool}
use Rattle.std.specs.Prelude.{IsTrue, if◌then◌else◌, List, [], ◌∷◌, ◌++◌, length, slice_index, take}
use Rattle.std.specs.Prelude.{drop, map, codes, bit_and, Option, Some, None, is_none, unwrap_or}
use Rattle.std.specs.List.{range_with_len, starts_with}
use Rattle.std.specs.Str.{bytes_eq}
use Rattle.km_names.specs.Number.{le}
use Rattle.km_names.specs.First.{first}
use Rattle.km_names.specs.Strings.{string_at}
use Rattle.elf_format.specs.declared.file_header.TheConstants.{EM_X86_64, ET_REL}
use Rattle.elf_format.specs.declared.section.TheConstants.{SHT_NULL, SHT_STRTAB, SHT_NOBITS}
use Rattle.elf_format.specs.declared.section.TheConstants.{SHF_ALLOC}
use Rattle.elf_sections.specs.declared.header.SectionHeader.{SectionHeader}
use Rattle.elf_sections.specs.declared.fault.SectionFault.{SectionFault}
use Rattle.elf_sections.specs.declared.fault.SectionFault.TheVariants.{NotElf, Truncated}
use Rattle.elf_sections.specs.declared.fault.SectionFault.TheVariants.{WrongClass, WrongMachine}
use Rattle.elf_sections.specs.declared.fault.SectionFault.TheVariants.{NotRelocatable, BadSection}
use Rattle.elf_sections.specs.declared.fault.SectionFault.TheVariants.{BadString}

-- A test that fails with this fault if the condition holds.
abbrev pub fault_if : {F : Type 0} → Bool → F → Option F
fault_if failed fault = if failed then Some fault else None

-- The tests of the numbers below n, by rising number.
abbrev pub each : {F : Type 0} → ℕ → (ℕ → Option F) → List (Option F)
each n test = map test (range_with_len 0 n)

-- The offset of the section header table. gABI 4, "ELF Header", e_shoff.
abbrev pub table_place : List ℕ → ℕ
table_place b = le b 40 8

-- The number of sections. gABI 4, "ELF Header", e_shnum.
abbrev pub section_count : List ℕ → ℕ
section_count b = le b 60 2

-- The number of the section with the names of the sections. gABI 4, "ELF Header", e_shstrndx.
abbrev pub name_table : List ℕ → ℕ
name_table b = le b 62 2

-- Whether the file is of 64 bits, little-endian and of version 1. gABI 4, "ELF Header", e_ident and
-- e_version.
unfoldable pub is_class : List ℕ → Bool
is_class b = slice_index b 4 == 2 && slice_index b 5 == 1 && slice_index b 6 == 1 && le b 20 4 == 1

-- Whether the numbers of the section header table are valid. Its entries have 64 bytes. There is at
-- least one, and none with a reserved number. The names are in a section other than the first. gABI
-- 4, "ELF Header", e_shentsize.
unfoldable pub is_table : List ℕ → Bool
is_table b =
    le b 58 2 == 64
    && nat_lt 0 (section_count b)
    && nat_lt (section_count b) 0xff00
    && nat_lt 0 (name_table b)
    && nat_lt (name_table b) (section_count b)

-- The file has its header and the section header table.
pub record HasTable (b : List ℕ) : Type 0 where
  pub header : 64 ≤ length b
  pub table : table_place b + 64 * section_count b ≤ length b
  pub names : name_table b < section_count b
  pub count : section_count b < 0xff00

-- The section header i. gABI 4, "Sections", Elf64_Shdr.
unfoldable pub section_header : List ℕ → ℕ → SectionHeader
section_header b i =
    let at = table_place b + 64 * i in
    record {
      name = le b at 4;
      kind = le b (at + 4) 4;
      flags = le b (at + 8) 8;
      offset = le b (at + 24) 8;
      size = le b (at + 32) 8;
      link = le b (at + 40) 4;
      info = le b (at + 44) 4;
      align = le b (at + 48) 8;
      entry_size = le b (at + 56) 8;
    }

-- Whether sections of this type have bytes in the file.
abbrev pub has_content : ℕ → Bool
has_content kind = not (kind == SHT_NULL) && not (kind == SHT_NOBITS)

-- The bytes of a section: as many as its size says, from its offset on. gABI 4, "Sections",
-- sh_offset.
unfoldable pub content : List ℕ → ℕ → ℕ → ℕ → List ℕ
content b kind offset size = if has_content kind then take size (drop offset b) else []

-- A section with these numbers lies in the file, if it has bytes there.
abbrev pub IsInFile : List ℕ → SectionHeader → Type 0
IsInFile b h = IsTrue (has_content h.kind) → h.offset + h.size ≤ length b

-- Each section of the file lies in it.
abbrev pub AllInFile : List ℕ → Type 0
AllInFile b = (i : ℕ) → i < section_count b → IsInFile b (section_header b i)

-- The name of a section of this type, at a place of the table of names; a section of type NULL has
-- none.
unfoldable pub name_in : List ℕ → ℕ → ℕ → List ℕ
name_in names kind at = if kind == SHT_NULL then [] else unwrap_or (string_at names at) []

-- Whether sections of this name are only read by the module tools and the loader: the module's
-- texts, and the versions of its needs in both of their forms. Linux, kernel/module/main.c and
-- scripts/mod/modpost.c.
unfoldable pub is_for_loading : List ℕ → Bool
is_for_loading name =
    bytes_eq name (codes ".modinfo")
    || bytes_eq name (codes "__versions")
    || bytes_eq name (codes "__version_ext_crcs")
    || bytes_eq name (codes "__version_ext_names")

-- Whether a section is kept in memory: it is one, has the flag ALLOC, and isn't only for loading.
-- gABI 4, "Sections", sh_flags.
unfoldable pub is_kept : ℕ → ℕ → List ℕ → Bool
is_kept kind flags name =
    not (kind == SHT_NULL) && not (bit_and flags SHF_ALLOC == 0) && not (is_for_loading name)

-- The bytes of the section i.
abbrev pub contents : List ℕ → ℕ → List ℕ
contents b i =
    content b (section_header b i).kind (section_header b i).offset (section_header b i).size

-- The tests of the file header.
unfoldable pub header_tests : List ℕ → List (Option SectionFault)
header_tests b =
    fault_if (not (starts_with nat_eq b (0x7f ∷ 0x45 ∷ 0x4c ∷ 0x46 ∷ []))) NotElf
    ∷ fault_if (nat_lt (length b) 64) (Truncated 0 64)
    ∷ fault_if (not (is_class b)) WrongClass
    ∷ fault_if (not (le b 18 2 == EM_X86_64)) WrongMachine
    ∷ fault_if (not (le b 16 2 == ET_REL)) NotRelocatable
    ∷ fault_if (not (is_table b)) (BadSection 0)
    ∷ fault_if (nat_lt (length b) (table_place b + 64 * section_count b))
    (Truncated (table_place b) (64 * section_count b))
    ∷ []

-- The test that the section i lies in the file, and that the first section is of type NULL.
unfoldable pub content_test : List ℕ → ℕ → Option SectionFault
content_test b i =
    let h = section_header b i in
    first (
    fault_if (i == 0 && not (h.kind == SHT_NULL)) (BadSection 0)
    ∷ fault_if (has_content h.kind && nat_lt (length b) (h.offset + h.size))
    (Truncated h.offset h.size)
    ∷ [])

-- The test that the section with the names is a string table.
unfoldable pub name_table_test : List ℕ → Option SectionFault
name_table_test b =
    fault_if (not ((section_header b (name_table b)).kind == SHT_STRTAB))
    (BadSection (name_table b))

-- The test that a section of this type, if it is one, has its name in the table of names.
unfoldable pub name_test_in : List ℕ → ℕ → ℕ → Option SectionFault
name_test_in names kind at =
    fault_if (not (kind == SHT_NULL) && is_none (string_at names at)) (BadString at)

-- The test that the section i, if it is one, has its name in the table of names.
abbrev pub name_test : List ℕ → ℕ → Option SectionFault
name_test b i =
    name_test_in (contents b (name_table b)) (section_header b i).kind (section_header b i).name

-- The tests that a file with sections passes, in order.
unfoldable pub shape_tests : List ℕ → List (Option SectionFault)
shape_tests b =
    header_tests b ++ each (section_count b) (content_test b) ++ name_table_test b
    ∷ each (section_count b) (name_test b)

-- The fault of the sections of a file: the first test that fails.
unfoldable pub shape_fault : List ℕ → Option SectionFault
shape_fault b = first (shape_tests b)
