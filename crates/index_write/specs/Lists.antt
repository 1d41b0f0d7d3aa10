-- The writer's map from keys to lists of values, as a map of an index: how contracts see a
-- `KeyMap`.
use Rattle.std.specs.Prelude.{ℕ, ◌<◌, ◌^◌, List, [], length, map, unwrap_or, T, Vec, String}
use Rattle.std.specs.Prelude.{string_bytes}
use Rattle.std.specs.List.{AllByRecursion}
use Rattle.std.specs.declared.alloc.Global.{Global}
use Rattle.std.specs.Ordering.{nat_cmp}
use Rattle.std.specs.Cmp.Lexicographic.{slice_cmp}
use Rattle.std.specs.FinMap.{from_sorted, find, put, is_sorted}
use Rattle.index_format.specs.Map.{Value, KeyValues, place, IsKey, IsText}
use Rattle.index_format.specs.Tree.{Entry}
use Rattle.index_write.specs.declared.key_map.StoredValue.{StoredValue}

-- A value, and the values of a list.
abbrev pub value_of : StoredValue → Value
value_of v = (v.priority, v.text)

abbrev pub shown_values : List StoredValue → List Value
shown_values vs = map value_of vs

abbrev pub KeyLists : Type 0
KeyLists = List (String Global × Vec StoredValue Global)

-- The entries of the lists.
abbrev pub entry_of : String Global × Vec StoredValue Global → Entry
entry_of e = (string_bytes e.0, shown_values e.1.items)

abbrev pub entries_of : KeyLists → List Entry
entries_of es = map entry_of es

-- The map of the lists, whose keys rise.
abbrev pub map_of : KeyLists → KeyValues
map_of es = from_sorted (entries_of es)

-- Whether the keys of the lists rise.
abbrev pub AreOrdered : KeyLists → Type 0
AreOrdered es = T (is_sorted (slice_cmp nat_cmp) (entries_of es))

-- The values of a key among entries.
abbrev pub found : List Entry → List ℕ → List Value
found es key = unwrap_or (find (slice_cmp nat_cmp) key es) []

-- The entries with one more value of a key.
abbrev pub with_one : List Entry → List ℕ → Value → List Entry
with_one es key v = put (slice_cmp nat_cmp) key (place (found es key) v) es

-- A value that a file can have: a priority of 32 bits, and a text without NUL.
abbrev pub IsStorable : Value → Type 0
IsStorable v = (v.0 < 2 ^ 32) × IsText v.1

-- An entry that the lists can have. Its key has the allowed bytes, and it has at least one value. A
-- file can have all its values.
pub record IsStorableEntry (e : Entry) : Type 0 where
  pub key : IsKey e.0
  pub some : 0 < length e.1
  pub values : AllByRecursion IsStorable e.1

abbrev pub AreStorable : KeyLists → Type 0
AreStorable es = AllByRecursion IsStorableEntry (entries_of es)
