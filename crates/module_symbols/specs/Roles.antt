-- What the symbols of an object file state of names. The kernel's EXPORT_SYMBOL writes a symbol
-- `__ksymtab_N` for the export N (include/linux/export.h), `__crc_N` for its version, and
-- `__kstrtabns_N` for its namespace.
use Rattle.std.specs.Prelude.{ℕ, ◌==◌, ◌&&◌, ◌||◌, not, Bool, List, map}
use Rattle.std.specs.Prelude.{codes, slice_get, Option, Some, None, option_and_then, if◌then◌else◌}
use Rattle.km_names.specs.Prefix.{rest_after}
use Rattle.elf_format.specs.declared.symbol.TheConstants.{SHN_UNDEF, STB_GLOBAL, STB_WEAK}
use Rattle.elf_object.specs.declared.symbol.Symbol.{Symbol}
use Rattle.elf_object.specs.Object.{FileObject}
use Rattle.name_table.specs.NameTable.{first_place}
use Rattle.module_symbols.specs.declared.role.Role.{Role}
use Rattle.module_symbols.specs.declared.role.Role.TheVariants.{Export, Version, Space, Definition}

-- Whether the symbol is defined in its own file. gABI 4, "Symbol Table", st_shndx.
abbrev pub is_defined : Symbol → Bool
is_defined s = not (s.section == SHN_UNDEF)

-- The name after a prefix in the name of a defined symbol.
abbrev pub name_after : List ℕ → Symbol → Option (List ℕ)
name_after prefix s = if is_defined s then rest_after prefix s.name else None

-- The name that other files can use for the symbol: its own if it is defined, and global or weak.
abbrev pub defined_name : Symbol → Option (List ℕ)
defined_name s =
    if is_defined s && (s.binding == STB_GLOBAL || s.binding == STB_WEAK) then Some s.name else None

-- The name that a symbol states in a role.
unfoldable pub stated_name : Role → Symbol → Option (List ℕ)
stated_name Export = name_after (codes "__ksymtab_")
stated_name Version = name_after (codes "__crc_")
stated_name Space = name_after (codes "__kstrtabns_")
stated_name Definition = defined_name

-- What each of the symbols states in a role.
abbrev pub stated_names : Role → FileObject → List (Option (List ℕ))
stated_names role o = map (stated_name role) o.symbols

-- The number of the first symbol that states this name in a role.
abbrev pub first_symbol : Role → FileObject → List ℕ → Option ℕ
first_symbol role o name = first_place (stated_names role o) name

-- The first symbol that states this name in a role.
unfoldable pub symbol_of : Role → FileObject → List ℕ → Option Symbol
symbol_of role o name = option_and_then (slice_get o.symbols) (first_symbol role o name)
