-- The built-in modules of a text. modprobe.d(5), "alias"; fnmatch(3).
use Rattle.std.specs.Prelude.{◌≡◌, ℕ, ◌&&◌, Bool, false, List, map, filter}
use Rattle.std.specs.List.{list_any}
use Rattle.std.specs.Option.{option_map_or}
use Rattle.std.specs.Str.{bytes_eq}
use Rattle.km_names.specs.AliasForm.{normal_alias}
use Rattle.name_table.specs.FirstSeen.{first_seen}
use Rattle.glob_match.specs.Decision.{is_match}
use Rattle.index_format.specs.Holds.{Holds}
use Rattle.index_read.specs.Contents.{contents, wild_values}
use Rattle.builtin_index.specs.declared.piece.BuiltinField.{BuiltinField}
use Rattle.builtin_index.specs.Fields.{fields_of}
use Rattle.builtin_index.specs.Aliases.{is_alias, modules_of, alias_map}

-- Whether a field states an alias whose normal form, as a pattern, matches a text.
abbrev pub is_matching : List ℕ → BuiltinField → Bool
is_matching text f =
    is_alias f && option_map_or (λ key. is_match key text) (normal_alias f.value) false

-- Whether the module of a name states a matching alias.
abbrev pub states_match : List BuiltinField → List ℕ → List ℕ → Bool
states_match fields text name = list_any (λ f. is_matching text f && bytes_eq name f.module) fields

-- The built-in modules that state a matching alias, each once, in the order modules are first seen
-- in.
abbrev pub modules_matching : List ℕ → List ℕ → List (List ℕ)
modules_matching bytes text =
    filter (states_match (fields_of bytes) text) (modules_of (fields_of bytes))

-- In any index that holds the map of the built-in aliases, the values of a text name exactly these
-- modules.
abbrev pub AreFound : Type 0
AreFound =
    (b bytes text : List ℕ) → Holds b (alias_map bytes)
    → first_seen (map (λ v. v.1) (wild_values (contents b) text)) ≡ modules_matching bytes text
