-- The parts of a piece, and the aliases of a file, as the code keeps them.
-- It belongs to the code: no public meaning rests on it.
use Rattle.std.specs.Prelude.{◌≡◌, ℕ, true, List, map, Option, Some, None, MatchOption, option_map}
use Rattle.std.specs.Prelude.{if◌then◌else◌, ⊤}
use Rattle.km_names.specs.Ascii.{is_graphic}
use Rattle.km_names.specs.AliasForm.{normal_alias}
use Rattle.km_names.specs.Path.{underscored}
use Rattle.index_format.specs.Listing.{KeyValue}
use Rattle.name_table.specs.FirstSeen.{is_among}
use Rattle.name_table.specs.Keys.{name_of}
use Rattle.builtin_index.specs.declared.piece.Parts.{Parts}
use Rattle.builtin_index.specs.declared.piece.BuiltinField.{BuiltinField}
use Rattle.builtin_index.specs.declared.seen.Seen.{Seen}
use Rattle.builtin_index.specs.declared.aliases.Stated.{Stated}
use Rattle.builtin_index.specs.Aliases.{is_alias, place_among}

-- The field of these parts.
abbrev pub field_shown : Parts → BuiltinField
field_shown parts =
    record { «module» = underscored parts.module.now; key = parts.key.now; value = parts.value.now }

-- These names were seen, in their order. The text that was last looked up names the one at its
-- place.
pub record IsSeen (seen : Seen) (seen_names : List (List ℕ)) : Type 0 where
  pub names : map name_of seen.names.keys ≡ seen_names
  pub last : MatchOption seen.last ⊤
      (λ l. (is_among seen_names (underscored l.text.now) ≡ true)
      × (l.place ≡ place_among seen_names (underscored l.text.now)))

-- An alias of the module at a place: the place, the module's name, and the alias.
abbrev pub AliasAt : Type 0
AliasAt = ℕ × List ℕ × List ℕ

abbrev pub alias_shown : Stated → AliasAt
alias_shown stated = (stated.place, underscored stated.module.now, stated.alias.now)

-- The alias of a field, if the modules are seen in this order.
abbrev pub alias_in : List (List ℕ) → BuiltinField → Option AliasAt
alias_in names f = if is_alias f then Some (place_among names f.module, f.module, f.value) else None

-- The value of an alias in the map.
abbrev pub value_at : AliasAt → Option KeyValue
value_at a = option_map (λ key. (key, (a.0, a.1))) (normal_alias a.2)

-- The names and the alias are words of visible characters.
pub record IsWord (stated : Stated) : Type 0 where
  pub «module» : is_graphic stated.module.now ≡ true
  pub alias : is_graphic stated.alias.now ≡ true
