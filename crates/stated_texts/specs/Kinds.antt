-- What modules state, by its kind. depmod(8), modprobe.d(5).
use Rattle.std.specs.Prelude.{ℕ, List, ◌++◌, flat_map, codes, Option, Some, None}
use Rattle.std.specs.Prelude.{option_map}
use Rattle.std.specs.List.{filter_map, enumerate_from}
use Rattle.km_names.specs.AliasForm.{normal_alias}
use Rattle.index_format.specs.Map.{KeyValues}
use Rattle.index_format.specs.Listing.{KeyValue}
use Rattle.module_facts.specs.declared.facts.Facts.{Facts}
use Rattle.stated_texts.specs.declared.stated.StatedKind.{StatedKind}
use Rattle.stated_texts.specs.declared.stated.StatedKind.TheVariants.{Alias, Softdep, Symbol}
use Rattle.stated_texts.specs.Maps.{map_of}
use Rattle.stated_texts.specs.Stated.{aliases_of, softdeps_of, symbols_of, alias_text, softdep_text}
use Rattle.stated_texts.specs.Stated.{symbols_text, alias_map, symbols_map}

-- The heading of the file of a kind.
abbrev pub heading : StatedKind → List ℕ
heading Alias = codes "# Aliases extracted from modules themselves."
heading Softdep = codes "# Soft dependencies extracted from modules themselves."
heading Symbol = codes "# Aliases for symbols, used by symbol_request()."

-- The texts of a kind that a module states.
abbrev pub texts_of : StatedKind → Facts → List (List ℕ)
texts_of Alias f = aliases_of f
texts_of Softdep f = softdeps_of f
texts_of Symbol f = symbols_of f

-- A line of the module of this name.
abbrev pub line_of : StatedKind → List ℕ → List ℕ → List ℕ
line_of Alias name text = codes "alias " ++ (text ++ (codes " " ++ name))
line_of Softdep name text = codes "softdep " ++ (name ++ (codes " " ++ text))
line_of Symbol name text = codes "alias symbol:" ++ (text ++ (codes " " ++ name))

-- The key that the index has a text under. Softdeps have no index.
abbrev pub key_of : StatedKind → List ℕ → Option (List ℕ)
key_of Alias text = normal_alias text
key_of Softdep text = None
key_of Symbol text = Some (codes "symbol:" ++ text)

-- The value of a text that the module at a place states, if it has a key.
abbrev pub value_with : StatedKind → ℕ → List ℕ → List ℕ → Option KeyValue
value_with kind place name text = option_map (λ key. (key, (place, name))) (key_of kind text)

-- The values of the module at a place.
abbrev pub values_with : StatedKind → ℕ → List ℕ → List (List ℕ) → List KeyValue
values_with kind place name texts = filter_map (value_with kind place name) texts

abbrev pub values_by : StatedKind → ℕ × Facts → List KeyValue
values_by kind (place, f) = values_with kind place f.name (texts_of kind f)

-- The map of the index.
abbrev pub map_by : StatedKind → List Facts → KeyValues
map_by kind tree = map_of (flat_map (values_by kind) (enumerate_from 0 tree))

-- The text of the file, and the map of the index, as they are defined for a tree.
abbrev pub text_of : StatedKind → List Facts → List ℕ
text_of Alias tree = alias_text tree
text_of Softdep tree = softdep_text tree
text_of Symbol tree = symbols_text tree

abbrev pub map_for : StatedKind → List Facts → KeyValues
map_for Alias tree = alias_map tree
map_for Softdep tree = map_by Softdep tree
map_for Symbol tree = symbols_map tree
