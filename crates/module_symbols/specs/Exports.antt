-- The exports of a module, with their versions and namespaces. The kernel's include/linux/export.h.
use Rattle.std.specs.Prelude.{ℕ, ◌+◌, ◌==◌, nat_le, Bool, false, List, [], length, map, codes}
use Rattle.std.specs.Prelude.{slice_get, Option, Some, None, unwrap_or, option_and_then}
use Rattle.std.specs.Prelude.{if◌then◌else◌}
use Rattle.std.specs.List.{filter_map}
use Rattle.std.specs.Option.{option_map_or}
use Rattle.std.specs.Str.{bytes_eq}
use Rattle.km_names.specs.Number.{le}
use Rattle.km_names.specs.Strings.{string_at}
use Rattle.elf_format.specs.declared.symbol.TheConstants.{SHN_ABS}
use Rattle.elf_object.specs.declared.symbol.Symbol.{Symbol}
use Rattle.elf_object.specs.Object.{FileObject}
use Rattle.module_symbols.specs.declared.exports.Export.{Export}
use Rattle.module_symbols.specs.declared.role.Role.TheVariants.{Export as OfExport, Version, Space}
use Rattle.module_symbols.specs.declared.role.Role.TheVariants.{Definition}
use Rattle.module_symbols.specs.Contents.{section_contents}
use Rattle.module_symbols.specs.Roles.{first_symbol, stated_name, symbol_of}

-- The version that a symbol gives. If the symbol is absolute, it is its value. Otherwise it is the
-- number in the 4 bytes at its value in its section, if the section has them.
unfoldable pub given_version : FileObject → Symbol → Option ℕ
given_version o s =
    let bytes = section_contents o s.section in
    if s.section == SHN_ABS then Some s.value
    else if nat_le (s.value + 4) (length bytes) then Some (le bytes s.value 4)
    else None

-- Whether the symbol lies in a section for GPL-only exports.
unfoldable pub is_gpl_entry : FileObject → Symbol → Bool
is_gpl_entry o s =
    option_map_or (λ x. bytes_eq x.name (codes "__ksymtab_gpl")) (slice_get o.sections s.section)
    false

-- The namespace that a symbol gives: the text at its value in its section, up to the next NUL. An
-- absolute symbol gives none, nor does one whose section has no bytes in the file.
unfoldable pub given_space : FileObject → Symbol → Option (List ℕ)
given_space o s = string_at (section_contents o s.section) s.value

-- The export of this name. Its symbol is the first that defines the name, and 0 if none does. It is
-- GPL-only by its first `__ksymtab_N`. Its namespace is empty if no symbol gives one.
unfoldable pub export_of : FileObject → List ℕ → Export
export_of o name = record {
  name = name;
  symbol = unwrap_or (first_symbol Definition o name) 0;
  crc = option_and_then (given_version o) (symbol_of Version o name);
  gpl = option_map_or (is_gpl_entry o) (symbol_of OfExport o name) false;
  space = unwrap_or (option_and_then (given_space o) (symbol_of Space o name)) [];
}

-- The exports, in the order of the symbols that state them.
unfoldable pub exports_of : FileObject → List Export
exports_of o = map (export_of o) (filter_map (stated_name OfExport) o.symbols)
