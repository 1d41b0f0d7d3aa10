-- The aliases of the modules that are built into the kernel, and the map of their index.
-- modprobe.d(5), "alias".
use Rattle.std.specs.Prelude.{ℕ, ◌&&◌, Bool, List, map, filter, Option, option_map, codes}
use Rattle.std.specs.List.{filter_map, position_or_len}
use Rattle.std.specs.Str.{bytes_eq}
use Rattle.km_names.specs.Ascii.{is_graphic}
use Rattle.km_names.specs.AliasForm.{normal_alias}
use Rattle.index_format.specs.Map.{KeyValues}
use Rattle.index_format.specs.Listing.{KeyValue, map_of}
use Rattle.name_table.specs.FirstSeen.{first_seen}
use Rattle.builtin_index.specs.declared.piece.BuiltinField.{BuiltinField}
use Rattle.builtin_index.specs.Fields.{fields_of}

-- Whether a field states an alias of visible characters.
abbrev pub is_alias : BuiltinField → Bool
is_alias f = bytes_eq f.key (codes "alias") && is_graphic f.value

-- The names of the modules that have fields, in the order they are first seen in.
abbrev pub modules_of : List BuiltinField → List (List ℕ)
modules_of fields = first_seen (map (λ f. f.module) fields)

-- The place of a name among some names.
abbrev pub place_among : List (List ℕ) → List ℕ → ℕ
place_among names name = position_or_len (bytes_eq name) names

-- The name of a field's module under the normal form of the field's value, if it has one; the
-- priority is the place of the module.
abbrev pub alias_value : List (List ℕ) → BuiltinField → Option KeyValue
alias_value names f =
    option_map (λ key. (key, (place_among names f.module, f.module))) (normal_alias f.value)

-- The values of the aliases that some fields state, each under its key, in the order of the fields.
abbrev pub alias_values : List BuiltinField → List KeyValue
alias_values fields = filter_map (alias_value (modules_of fields)) (filter is_alias fields)

-- The map of the aliases that the bytes of a modules.builtin.modinfo state: each alias that can be
-- used leads to its module.
unfoldable pub alias_map : List ℕ → KeyValues
alias_map bytes = map_of (alias_values (fields_of bytes))
