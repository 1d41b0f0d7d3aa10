-- What a table has of each exported name, and what it has room for.
use Rattle.std.specs.Prelude.{ℕ, List, find, Option, option_map, slice_index}
use Rattle.std.specs.HashMap.{get_by, spare}
use Rattle.std.specs.Str.{bytes_eq}
use Rattle.module_symbols.specs.declared.exports.Export.{Export as FactsExport}
use Rattle.export_table.specs.declared.placed.PlacedExport.{PlacedExport}
use Rattle.export_table.specs.declared.standing.Standing.{Standing}
use Rattle.export_table.specs.declared.standing.Named.{Named}
use Rattle.export_table.specs.declared.standing.ExportTable.{ExportTable}
use Rattle.export_table.specs.Exports.{standing}

-- What a table has for a name.
abbrev pub standing_of : ExportTable → List ℕ → Option Standing
standing_of t x = get_by (λ k. bytes_eq x k.items) t.standings

-- The number of names that a table has room for without more memory.
abbrev pub table_room : ExportTable → ℕ
table_room t = spare t.standings

-- What a list has for a name.
abbrev pub standing_in : List ℕ → List Named → Option Standing
standing_in x named = option_map (λ n. n.standing) (find (λ n. bytes_eq n.name.items x) named)

-- A name with what is kept of it, as a pair.
abbrev pub named_pair : Named → List ℕ × Standing
named_pair n = (n.name.items, n.standing)

abbrev pub export_pair : Option (List ℕ) → PlacedExport → List ℕ × Standing
export_pair owner e = (e.name, standing owner e)

-- An export of a module, by the addresses of the module's symbols.
abbrev pub placed_by : List ℕ → FactsExport → PlacedExport
placed_by addresses e =
    record {
      name = e.name;
      crc = e.crc;
      gpl = e.gpl;
      space = e.space;
      address = slice_index addresses e.symbol;
    }
