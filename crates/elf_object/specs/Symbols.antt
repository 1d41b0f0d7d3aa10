-- The symbols of an object file, and the tests that they pass. gABI 4, "Symbol Table".
use Rattle.std.specs.Prelude.{ℕ, ◌+◌, ◌*◌, ◌/◌, ◌%◌, ◌==◌, ◌&&◌, ◌||◌, nat_lt, nat_le, not, Bool}
use Rattle.std.specs.Prelude.{true, false, if◌then◌else◌, List, [], ◌∷◌, length, slice_index, map}
use Rattle.std.specs.Prelude.{Option, None, is_none, unwrap_or}
use Rattle.std.specs.List.{position, range_with_len}
use Rattle.std.specs.Option.{option_map_or}
use Rattle.km_names.specs.Number.{le}
use Rattle.km_names.specs.First.{first}
use Rattle.km_names.specs.Strings.{string_at}
use Rattle.elf_format.specs.declared.section.TheConstants.{SHT_SYMTAB, SHT_STRTAB, SHT_RELA}
use Rattle.elf_format.specs.declared.section.TheConstants.{SHT_REL}
use Rattle.elf_format.specs.declared.symbol.TheConstants.{SHN_UNDEF, SHN_LORESERVE, SHN_ABS}
use Rattle.elf_format.specs.declared.symbol.TheConstants.{SHN_COMMON, SHN_XINDEX, STB_LOCAL}
use Rattle.elf_format.specs.declared.symbol.TheConstants.{STB_WEAK}
use Rattle.elf_object.specs.declared.symbol.Symbol.{Symbol}
use Rattle.elf_object.specs.declared.symbol.SymbolEntry.{SymbolEntry}
use Rattle.elf_object.specs.declared.symbol.SymbolRef.{SymbolRef}
use Rattle.elf_object.specs.declared.fault.ObjectFault.{ObjectFault}
use Rattle.elf_object.specs.declared.fault.ObjectFault.TheVariants.{Shape, RelSection, BadTable}
use Rattle.elf_object.specs.declared.fault.ObjectFault.TheVariants.{ExtendedIndex, CommonSymbol}
use Rattle.elf_object.specs.declared.fault.ObjectFault.TheVariants.{BadSymbol}
use Rattle.elf_sections.specs.declared.fault.SectionFault.TheVariants.{BadString}
use Rattle.elf_sections.specs.Shape.{each, contents, fault_if, section_count}
use Rattle.elf_sections.specs.Sections.{entry_size, section_of}

-- A symbol with a borrowed name, as one with a name of its own. gABI 4, "Symbol Table", Elf64_Sym.
abbrev pub owned_symbol : SymbolRef → Symbol
owned_symbol s =
    record { name = s.name.now; binding = s.binding; section = s.section; value = s.value }

-- The test that the section i holds no relocations without addends.
unfoldable pub rel_test : List ℕ → ℕ → Option ObjectFault
rel_test b i = fault_if ((section_of b i).kind == SHT_REL) (RelSection i)

-- The symbol table: the first section of that type.
unfoldable pub symbol_table : List ℕ → Option ℕ
symbol_table b =
    position (λ i. (section_of b i).kind == SHT_SYMTAB) (range_with_len 0 (section_count b))

-- Whether the section i is the symbol table.
unfoldable pub is_symbol_table : List ℕ → ℕ → Bool
is_symbol_table b i = option_map_or (λ t. t == i) (symbol_table b) false

-- Whether the section i is a string table.
unfoldable pub is_string_table : List ℕ → ℕ → Bool
is_string_table b i = nat_lt i (section_count b) && (section_of b i).kind == SHT_STRTAB

-- Whether the section i has entries of 24 bytes, each of them whole.
unfoldable pub has_entries : List ℕ → ℕ → Bool
has_entries b i = entry_size b i == 24 && (section_of b i).size % 24 == 0

-- Whether a table is valid. A section of symbols is the only one, has its entries, and has its
-- names in a string table. A section of relocations has its entries, uses the symbol table, and
-- changes another section.
unfoldable pub is_good_table : List ℕ → ℕ → Bool
is_good_table b i =
    let s = section_of b i in
    if s.kind == SHT_SYMTAB then is_symbol_table b i && has_entries b i && is_string_table b s.link
    else if s.kind == SHT_RELA
    then has_entries b i
    && is_symbol_table b s.link
    && nat_lt 0 s.info
    && nat_lt s.info (section_count b)
    else true

-- The test that the section i is valid if it is a table.
unfoldable pub table_test : List ℕ → ℕ → Option ObjectFault
table_test b i = fault_if (not (is_good_table b i)) (BadTable i)

-- The entry j of a symbol table of these bytes. gABI 4, "Symbol Table", Elf64_Sym.
unfoldable pub symbol_entry : List ℕ → ℕ → SymbolEntry
symbol_entry table j = record {
  name = le table (24 * j) 4;
  info = slice_index table (24 * j + 4);
  section = le table (24 * j + 6) 2;
  value = le table (24 * j + 8) 8;
}

-- The binding of a symbol. gABI 4, "Symbol Table", st_info.
abbrev pub binding : SymbolEntry → ℕ
binding e = e.info / 16

-- Whether a symbol of this name is invalid, in a file of this many sections. Its section is neither
-- one of the file nor absolute, its binding is none of the three, or it is undefined and local or
-- has no name.
unfoldable pub is_bad_symbol : ℕ → List ℕ → SymbolEntry → Bool
is_bad_symbol count name e =
    (nat_le SHN_LORESERVE e.section && not (e.section == SHN_ABS))
    || (nat_lt e.section SHN_LORESERVE && nat_le count e.section)
    || nat_lt STB_WEAK (binding e)
    || (e.section == SHN_UNDEF && (binding e == STB_LOCAL || length name == 0))

-- The tests of the section and the binding of the symbol j of this name.
unfoldable pub kind_test : ℕ → List ℕ → ℕ → SymbolEntry → Option ObjectFault
kind_test count name j e =
    first (
    fault_if (e.section == SHN_XINDEX) (ExtendedIndex j)
    ∷ fault_if (e.section == SHN_COMMON) (CommonSymbol j)
    ∷ fault_if (is_bad_symbol count name e) (BadSymbol j)
    ∷ [])

-- The tests of the symbol j of a table, by its string table and the count of sections. Symbol 0
-- isn't tested.
unfoldable pub symbol_test_in : List ℕ → List ℕ → ℕ → ℕ → Option ObjectFault
symbol_test_in table names count j =
    let e = symbol_entry table j in
    if j == 0 then None
    else first (
    fault_if (is_none (string_at names e.name)) (Shape (BadString e.name))
    ∷ kind_test count (unwrap_or (string_at names e.name) []) j e
    ∷ [])

-- The symbol j of a table, by its string table. Symbol 0 has no name, and zeros, whatever the file
-- has there.
unfoldable pub symbol_in : List ℕ → List ℕ → ℕ → Symbol
symbol_in table names j =
    let e = symbol_entry table j in
    if j == 0 then record { name = []; binding = 0; section = 0; value = 0 }
    else record {
      name = unwrap_or (string_at names e.name) [];
      binding = binding e;
      section = e.section;
      value = e.value;
    }

-- The number of entries of 24 bytes in a table of these bytes.
abbrev pub entries : List ℕ → ℕ
entries table = length table / 24

-- The symbols of a table, by its string table.
unfoldable pub symbols_in : List ℕ → List ℕ → List Symbol
symbols_in table names = map (symbol_in table names) (range_with_len 0 (entries table))

-- The bytes of the symbol table of a file; none if there is no symbol table.
unfoldable pub symbol_bytes : List ℕ → List ℕ
symbol_bytes b = option_map_or (contents b) (symbol_table b) []

-- The bytes of the string table that has the names of a file's symbols; none if there is no symbol
-- table.
unfoldable pub symbol_names : List ℕ → List ℕ
symbol_names b = option_map_or (λ t. contents b (section_of b t).link) (symbol_table b) []

-- The symbols of a file.
unfoldable pub symbols_of : List ℕ → List Symbol
symbols_of b = symbols_in (symbol_bytes b) (symbol_names b)

-- The tests of the symbol j of a file.
abbrev pub symbol_test : List ℕ → ℕ → Option ObjectFault
symbol_test b j = symbol_test_in (symbol_bytes b) (symbol_names b) (section_count b) j

-- The tests of the tables and of the symbols of a file, in order, each by rising number.
unfoldable pub symbol_tests : List ℕ → List (Option ObjectFault)
symbol_tests b =
    first (each (section_count b) (rel_test b))
    ∷ first (each (section_count b) (table_test b))
    ∷ first (each (entries (symbol_bytes b)) (symbol_test b))
    ∷ []
