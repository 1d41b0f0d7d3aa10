-- The further sections of a sheet, each only if its list isn't empty: extended versions, GPL-only
-- exports and the texts of namespaces. The kernel's include/linux/export.h, scripts/mod/modpost.c.
use Rattle.std.specs.Prelude.{ℕ, ◌+◌, ◌*◌, List, [], ◌∷◌, ◌++◌, length, take, codes, Option}
use Rattle.std.specs.Prelude.{option_map, position}
use Rattle.std.specs.List.{flat_map}
use Rattle.std.specs.Str.{bytes_eq}
use Rattle.elf_format.specs.declared.section.TheConstants.{SHT_PROGBITS, SHF_ALLOC}
use Rattle.elf_write.specs.declared.part.Part.{Part}
use Rattle.sheet_object.specs.declared.section.TheConstants.{FURTHER}
use Rattle.sheet_object.specs.declared.sheet.SheetMore.{SheetMore}
use Rattle.sheet_object.specs.declared.sheet.SheetSpace.{SheetSpace}
use Rattle.sheet_object.specs.declared.sheet.SheetVersion.{SheetVersion}
use Rattle.elf_write.specs.Number.{word, zeros, with_nul}
use Rattle.elf_write.specs.Part.{plain}

-- The content of `__version_ext_crcs`: the numbers of extended versions, 4 bytes each. The kernel's
-- scripts/mod/modpost.c.
abbrev pub crc_bytes : List SheetVersion → List ℕ
crc_bytes ext = flat_map (λ (v : SheetVersion). word v.crc) ext

-- The content of `__version_ext_names`: the names of extended versions, each with its NUL. The
-- kernel's scripts/mod/modpost.c.
abbrev pub name_bytes : List SheetVersion → List ℕ
name_bytes ext = flat_map (λ (v : SheetVersion). with_nul v.name) ext

-- The content of `__ksymtab_strings`: the texts of namespaces, each with its NUL. The kernel's
-- include/linux/export.h.
abbrev pub space_bytes : List SheetSpace → List ℕ
space_bytes spaces = flat_map (λ (p : SheetSpace). with_nul p.space) spaces

-- A further section, by its name and its content. It has bytes in the file, and is loaded. gABI 4,
-- "Sections".
abbrev pub further_part : List ℕ → List ℕ → Part
further_part name content =
    record { name = name; attributes = plain SHT_PROGBITS SHF_ALLOC 8; content = content }

-- Sections that are present only if a list isn't empty.
abbrev pub unless_empty : {X : Type 0} → List X → List Part → List Part
unless_empty [] parts = []
unless_empty (x ∷ xs) parts = parts

-- The two sections of extended versions. The kernel's scripts/mod/modpost.c.
abbrev pub version_parts : SheetMore → List Part
version_parts m =
    unless_empty m.ext
    (further_part (codes "__version_ext_crcs") (crc_bytes m.ext)
    ∷ further_part (codes "__version_ext_names") (name_bytes m.ext) ∷ [])

-- The section of GPL-only exports, 8 zeros for each. The kernel's include/linux/export.h,
-- EXPORT_SYMBOL_GPL.
abbrev pub gpl_parts : SheetMore → List Part
gpl_parts m =
    unless_empty m.gpl (further_part (codes "__ksymtab_gpl") (zeros (8 * length m.gpl)) ∷ [])

-- The section of the texts of namespaces. The kernel's include/linux/export.h, EXPORT_SYMBOL_NS.
abbrev pub space_parts : SheetMore → List Part
space_parts m =
    unless_empty m.spaces (further_part (codes "__ksymtab_strings") (space_bytes m.spaces) ∷ [])

-- The sections from 9 on, in their order.
unfoldable pub further_parts : SheetMore → List Part
further_parts m = version_parts m ++ gpl_parts m ++ space_parts m

-- The number of `__ksymtab_gpl`, by the sections before it.
unfoldable pub gpl_section : SheetMore → ℕ
gpl_section m = FURTHER + length (version_parts m)

-- The number of `__ksymtab_strings`, by the sections before it.
unfoldable pub strings_section : SheetMore → ℕ
strings_section m = FURTHER + length (version_parts m) + length (gpl_parts m)

-- The place in `__ksymtab_strings` of the text k.
abbrev pub text_place : List SheetSpace → ℕ → ℕ
text_place spaces k = length (space_bytes (take k spaces))

-- The place in `__ksymtab_strings` of the namespace of an export, if it has one.
unfoldable pub space_place : SheetMore → List ℕ → Option ℕ
space_place m name =
    option_map (text_place m.spaces) (position (λ (p : SheetSpace). bytes_eq p.name name) m.spaces)
