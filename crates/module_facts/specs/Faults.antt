-- The faults of a module.
use Rattle.std.specs.Prelude.{ℕ, ◌&&◌, ◌||◌, nat_lt, not, Bool, false, List, [], ◌∷◌, length, find}
use Rattle.std.specs.Prelude.{Option, is_none, option_map}
use Rattle.std.specs.List.{count_by, list_all, list_any}
use Rattle.std.specs.Option.{option_map_or}
use Rattle.std.specs.Str.{bytes_eq}
use Rattle.km_names.specs.Ascii.{is_graphic}
use Rattle.km_names.specs.First.{first}
use Rattle.km_names.specs.Path.{is_compressed}
use Rattle.elf_object.specs.Object.{FileObject, file_object, object_fault}
use Rattle.elf_sections.specs.Shape.{fault_if}
use Rattle.module_symbols.specs.declared.exports.Export.{Export}
use Rattle.module_symbols.specs.declared.needs.Need.{Need}
use Rattle.module_facts.specs.declared.facts.Facts.{Facts}
use Rattle.module_facts.specs.declared.fault.ModuleFault.{ModuleFault}
use Rattle.module_facts.specs.declared.fault.ModuleFault.TheVariants.{Compressed, Object}
use Rattle.module_facts.specs.declared.fault.ModuleFault.TheVariants.{NameTooLong, BadName}
use Rattle.module_facts.specs.declared.fault.ModuleFault.TheVariants.{ExportTwice, ExportUndefined}
use Rattle.module_facts.specs.declared.fault.ModuleFault.TheVariants.{BadVersions, BadNamespace}
use Rattle.module_symbols.specs.declared.role.Role.TheVariants.{Version, Space, Definition}
use Rattle.module_symbols.specs.Roles.{first_symbol, symbol_of}
use Rattle.module_symbols.specs.Versions.{is_bad_list}
use Rattle.module_symbols.specs.Exports.{given_space, given_version}
use Rattle.module_facts.specs.Facts.{object_facts}

-- Whether the names of the module, its exports and its needs can be words of a line: none is empty,
-- and all bytes are visible characters of ASCII.
unfoldable pub has_good_names : Facts → Bool
has_good_names f =
    is_graphic f.name
    && list_all (λ (e : Export). is_graphic e.name) f.exports
    && list_all (λ (n : Need). is_graphic n.name) f.needs

-- Whether two or more of the exports have this one's name.
unfoldable pub is_twice : List Export → Export → Bool
is_twice exports e = nat_lt 1 (count_by (λ other. bytes_eq other.name e.name) exports)

-- The test that no two exports have one name. The fault names the first export whose name another
-- has too.
abbrev pub twice_test : List Export → Option ModuleFault
twice_test exports = option_map (λ e. ExportTwice e.name) (find (is_twice exports) exports)

-- Whether no symbol defines the export.
unfoldable pub is_undefined : FileObject → Export → Bool
is_undefined o e = is_none (first_symbol Definition o e.name)

-- The test that each export is defined. The fault names the first that isn't.
abbrev pub undefined_test : FileObject → List Export → Option ModuleFault
undefined_test o exports = option_map (λ e. ExportUndefined e.name) (find (is_undefined o) exports)

-- Whether the symbol that gives the export's version has no 4 bytes in its section of the file.
unfoldable pub has_bad_version : FileObject → Export → Bool
has_bad_version o e =
    option_map_or (λ s. is_none (given_version o s)) (symbol_of Version o e.name) false

-- Whether the versions of the needs or of the exports are invalid.
unfoldable pub has_bad_versions : FileObject → List Export → Bool
has_bad_versions o exports = is_bad_list o || list_any (has_bad_version o) exports

-- Whether the symbol for the export's namespace gives none.
unfoldable pub has_bad_space : FileObject → Export → Bool
has_bad_space o e = option_map_or (λ s. is_none (given_space o s)) (symbol_of Space o e.name) false

-- The test that each symbol for a namespace gives one. The fault names the first export whose
-- symbol doesn't.
abbrev pub space_test : FileObject → List Export → Option ModuleFault
space_test o exports = option_map (λ e. BadNamespace e.name) (find (has_bad_space o) exports)

-- The tests of the facts, in order.
unfoldable pub facts_tests : FileObject → Facts → List (Option ModuleFault)
facts_tests o f =
    fault_if (nat_lt 55 (length f.name)) NameTooLong
    ∷ fault_if (not (has_good_names f)) BadName
    ∷ twice_test f.exports
    ∷ undefined_test o f.exports
    ∷ fault_if (has_bad_versions o f.exports) BadVersions
    ∷ space_test o f.exports
    ∷ []

-- The tests of the module at a path, in order: its path, its object, and its facts.
unfoldable pub module_tests : List ℕ → List ℕ → List (Option ModuleFault)
module_tests path b =
    fault_if (is_compressed path) Compressed
    ∷ option_map (λ fault. Object fault) (object_fault b)
    ∷ facts_tests (file_object b) (object_facts path (file_object b))

-- The fault of the module at a path: the first test that fails.
unfoldable pub fact_fault : List ℕ → List ℕ → Option ModuleFault
fact_fault path b = first (module_tests path b)
