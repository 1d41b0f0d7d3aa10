-- What modules state so that others can find them: aliases, softdeps, and the symbols that they
-- export. depmod(8), modprobe.d(5).
use Rattle.std.specs.Prelude.{ℕ, ◌==◌, ◌&&◌, ◌||◌, not, Bool, nat_eq, List, [], ◌∷◌, ◌++◌, map}
use Rattle.std.specs.Prelude.{filter, flat_map, codes, is_some, option_map}
use Rattle.std.specs.List.{list_all, filter_map, ends_with, enumerate_from}
use Rattle.std.specs.Char.{is_ascii_graphic}
use Rattle.km_names.specs.Ascii.{is_graphic}
use Rattle.km_names.specs.AliasForm.{normal_alias}
use Rattle.index_format.specs.Map.{KeyValues}
use Rattle.index_format.specs.Listing.{KeyValue}
use Rattle.module_symbols.specs.declared.exports.Export.{Export}
use Rattle.module_facts.specs.declared.facts.Facts.{Facts}
use Rattle.stated_texts.specs.Lines.{lines_text}
use Rattle.stated_texts.specs.Maps.{map_of}

-- Whether an alias can be used: it is a word of visible characters, and has a normal form.
unfoldable pub is_usable_alias : List ℕ → Bool
is_usable_alias alias = is_graphic alias && is_some (normal_alias alias)

-- Whether a byte is a visible character or a space.
abbrev pub is_printable : ℕ → Bool
is_printable b = is_ascii_graphic b || b == 32

-- Whether the text of a softdep can be used: it has only visible characters and spaces, has a
-- visible character, and doesn't end in `\`, which would continue the line.
unfoldable pub is_usable_softdep : List ℕ → Bool
is_usable_softdep text =
    list_all is_printable text
    && not (list_all (λ b. b == 32) text)
    && not (ends_with nat_eq text (92 ∷ []))

-- The aliases of a module that can be used.
abbrev pub aliases_of : Facts → List (List ℕ)
aliases_of f = filter is_usable_alias f.aliases

-- The texts of soft dependencies that can be used.
abbrev pub softdeps_of : Facts → List (List ℕ)
softdeps_of f = filter is_usable_softdep f.softdeps

-- The names of a module's exports.
abbrev pub symbols_of : Facts → List (List ℕ)
symbols_of f = map (λ (e : Export). e.name) f.exports

-- A line `alias ALIAS NAME` for each alias, as the module states it.
abbrev pub alias_lines : Facts → List (List ℕ)
alias_lines f = map (λ alias. codes "alias " ++ (alias ++ (codes " " ++ f.name))) (aliases_of f)

-- A line `softdep NAME TEXT` for each text. modprobe.d(5).
abbrev pub softdep_lines : Facts → List (List ℕ)
softdep_lines f = map (λ text. codes "softdep " ++ (f.name ++ (codes " " ++ text))) (softdeps_of f)

-- A line `alias symbol:SYMBOL NAME` for each symbol.
abbrev pub symbol_lines : Facts → List (List ℕ)
symbol_lines f =
    map (λ symbol. codes "alias symbol:" ++ (symbol ++ (codes " " ++ f.name))) (symbols_of f)

-- The text of modules.alias: a heading, and the lines of each module, in the order of the tree.
unfoldable pub alias_text : List Facts → List ℕ
alias_text tree =
    lines_text (codes "# Aliases extracted from modules themselves." ∷ flat_map alias_lines tree)

-- The text of modules.softdep.
unfoldable pub softdep_text : List Facts → List ℕ
softdep_text tree =
    lines_text (codes "# Soft dependencies extracted from modules themselves."
    ∷ flat_map softdep_lines tree)

-- The text of modules.symbols.
unfoldable pub symbols_text : List Facts → List ℕ
symbols_text tree =
    lines_text
    (codes "# Aliases for symbols, used by symbol_request()." ∷ flat_map symbol_lines tree)

-- The name of the module at a place under the normal form of each of its aliases. The priority is
-- the place.
abbrev pub alias_values : ℕ × Facts → List KeyValue
alias_values (place, f) =
    filter_map (λ alias. option_map (λ key. (key, (place, f.name))) (normal_alias alias))
    (aliases_of f)

-- The name of the module at a place under `symbol:SYMBOL` for each symbol. The priority is the
-- place.
abbrev pub symbol_values : ℕ × Facts → List KeyValue
symbol_values (place, f) =
    map (λ symbol. (codes "symbol:" ++ symbol, (place, f.name))) (symbols_of f)

-- The map of modules.alias.bin, from the aliases of the modules, in the order of the tree.
unfoldable pub alias_map : List Facts → KeyValues
alias_map tree = map_of (flat_map alias_values (enumerate_from 0 tree))

-- The map of modules.symbols.bin. modules.dep(5).
unfoldable pub symbols_map : List Facts → KeyValues
symbols_map tree = map_of (flat_map symbol_values (enumerate_from 0 tree))
