-- The tables of the names that an object's symbols state.
use Rattle.std.specs.Prelude.{◌≡◌, List, [], map, Option, MatchOption}
use Rattle.elf_object.specs.Object.{FileObject}
use Rattle.elf_object.specs.declared.symbol.Symbol.{Symbol}
use Rattle.name_table.specs.NameTable.{IsTableOf}
use Rattle.module_symbols.specs.declared.exports.Export.{Export as Exported}
use Rattle.module_symbols.specs.declared.role.Role.TheVariants.{Export, Version, Space, Definition}
use Rattle.module_symbols.specs.declared.tables.SymbolTables.{SymbolTables}
use Rattle.module_symbols.specs.Roles.{stated_name}

-- The tables are those of these symbols.
pub record AreTablesOf (t : SymbolTables) (symbols : List Symbol) : Type 0 where
  pub exports : IsTableOf t.exports (map (stated_name Export) symbols)
  pub versions : IsTableOf t.versions (map (stated_name Version) symbols)
  pub spaces : IsTableOf t.spaces (map (stated_name Space) symbols)
  pub definitions : IsTableOf t.definitions (map (stated_name Definition) symbols)

-- The tables are the object's.
abbrev pub HasTables : SymbolTables → FileObject → Type 0
HasTables t o = AreTablesOf t o.symbols

-- The tables that look up these exports: the object's, or none if there is no export.
abbrev pub AreTablesFor : List Exported → FileObject → Option SymbolTables → Type 0
AreTablesFor exports o tables = MatchOption tables (exports ≡ []) (λ t. HasTables t o)
