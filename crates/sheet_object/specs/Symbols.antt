-- The symbols of a sheet's object. gABI 4, "Symbol Table"; the kernel's include/linux/export.h.
use Rattle.std.specs.Prelude.{ℕ, Bool, ◌+◌, ◌*◌, if◌then◌else◌, List, [], ◌∷◌, ◌++◌, length, map}
use Rattle.std.specs.Prelude.{codes, Option, Some, None, position, unwrap_or}
use Rattle.std.specs.List.{flat_map}
use Rattle.std.specs.Str.{bytes_eq}
use Rattle.elf_format.specs.declared.symbol.TheConstants.{SHN_ABS, SHN_UNDEF, STB_LOCAL, STB_GLOBAL}
use Rattle.elf_format.specs.declared.symbol.TheConstants.{STB_WEAK, STT_NOTYPE, STT_FUNC}
use Rattle.sheet_object.specs.declared.section.TheConstants.{TEXT}
use Rattle.sheet_object.specs.declared.sheet.Sheet.{Sheet}
use Rattle.sheet_object.specs.declared.sheet.SheetExport.{SheetExport}
use Rattle.sheet_object.specs.declared.sheet.SheetMore.{SheetMore}
use Rattle.sheet_object.specs.declared.sheet.SheetNeed.{SheetNeed}
use Rattle.name_table.specs.FirstSeen.{is_among}
use Rattle.sheet_object.specs.Sheet.{symbol_names}
use Rattle.elf_write.specs.Number.{half, word, xword, with_nul}
use Rattle.sheet_object.specs.Further.{gpl_section, strings_section, space_place}

-- A symbol, by its name and its numbers.
pub record SymbolEntry : Type 0 where
  pub name : List ℕ
  pub info : ℕ
  pub section : ℕ
  pub value : ℕ
  pub size : ℕ

-- The section of a `__ksymtab_N`.
unfoldable pub table_section : SheetMore → List ℕ → ℕ
table_section m name = if is_among m.gpl name then gpl_section m else TEXT

-- The info of a symbol, by its binding and its type. st_info.
abbrev pub info_of : ℕ → ℕ → ℕ
info_of binding kind = 16 * binding + kind

-- A local symbol of no type, at a value in a section.
abbrev pub local_symbol : List ℕ → ℕ → ℕ → SymbolEntry
local_symbol name section value =
    record {
      name = name;
      info = info_of STB_LOCAL STT_NOTYPE;
      section = section;
      value = value;
      size = 0;
    }

-- `__crc_N`, an absolute symbol, for an export that states its version.
abbrev pub version_symbols : List ℕ → Option ℕ → List SymbolEntry
version_symbols name None = []
version_symbols name (Some crc) = local_symbol (codes "__crc_" ++ name) SHN_ABS crc ∷ []

-- `__kstrtabns_N`, at the text of its namespace, for an export that is in one.
abbrev pub space_symbols : List ℕ → ℕ → Option ℕ → List SymbolEntry
space_symbols name section None = []
space_symbols name section (Some at) = local_symbol (codes "__kstrtabns_" ++ name) section at ∷ []

-- The local symbols of an export. `__ksymtab_N` is the first.
unfoldable pub local_symbols : SheetMore → SheetExport → List SymbolEntry
local_symbols m e =
    local_symbol (codes "__ksymtab_" ++ e.name) (table_section m e.name) 0
    ∷ version_symbols e.name e.crc
    ++ space_symbols e.name (strings_section m) (space_place m e.name)

-- The symbols of the exports from number j on, each a global function of 16 bytes after the one
-- before it.
abbrev pub export_symbols : ℕ → List SheetExport → List SymbolEntry
export_symbols j [] = []
export_symbols j (e ∷ exports) =
    record {
      name = e.name;
      info = info_of STB_GLOBAL STT_FUNC;
      section = TEXT;
      value = 16 * j;
      size = 16;
    }
    ∷ export_symbols (j + 1) exports

-- The info of an undefined symbol.
abbrev pub need_info : Bool → ℕ
need_info weak = if weak then info_of STB_WEAK STT_NOTYPE else info_of STB_GLOBAL STT_NOTYPE

-- An undefined symbol, global or weak.
abbrev pub need_symbol : SheetNeed → SymbolEntry
need_symbol n =
    record { name = n.name; info = need_info n.weak; section = SHN_UNDEF; value = 0; size = 0 }

-- The local symbols of all exports.
unfoldable pub locals : Sheet → SheetMore → List SymbolEntry
locals s m = flat_map (local_symbols m) s.exports

-- All symbols except the first, which is zeros: local ones first.
abbrev pub symbols : Sheet → SheetMore → List SymbolEntry
symbols s m = locals s m ++ export_symbols 0 s.exports ++ map need_symbol s.needs

-- The number of local symbols, with the first one.
abbrev pub local_count : Sheet → SheetMore → ℕ
local_count s m = 1 + length (locals s m)

-- The number of the symbol of this name: exports and needs are after the local symbols.
unfoldable pub symbol_number : Sheet → SheetMore → List ℕ → ℕ
symbol_number s m name =
    local_count s m + unwrap_or (position (λ other. bytes_eq other name) (symbol_names s)) 0

-- The names of symbols, each with its NUL.
abbrev pub names_bytes : List SymbolEntry → List ℕ
names_bytes symbols = flat_map (λ (e : SymbolEntry). with_nul e.name) symbols

-- An entry of 24 bytes, whose name is at this place of the string table. Elf64_Sym.
abbrev pub symbol_bytes : ℕ → SymbolEntry → List ℕ
symbol_bytes at e = word at ++ e.info ∷ 0 ∷ half e.section ++ xword e.value ++ xword e.size

-- The entries of symbols whose names begin at this place.
abbrev pub entries_bytes : ℕ → List SymbolEntry → List ℕ
entries_bytes at [] = []
entries_bytes at (e ∷ symbols) =
    symbol_bytes at e ++ entries_bytes (at + (length e.name + 1)) symbols
