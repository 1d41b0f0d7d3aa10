-- The map that an index file represents, and the values of all keys of a map that match a text.
-- kmod's index format 2.1, "searching".
use Rattle.std.specs.Prelude.{ℕ, ◌==◌, nat_le, List, [], ◌∷◌, length, flat_map, if◌then◌else◌}
use Rattle.std.specs.FinMap.{entries, from_sorted}
use Rattle.index_format.specs.Map.{Value, KeyValues}
use Rattle.index_format.specs.Node.{values}
use Rattle.glob_match.specs.Decision.{is_match}
use Rattle.index_read.specs.Keys.{Item, all_items}

-- A node as an entry of a map, if it has values.
abbrev pub entry_of : List ℕ → Item → List (List ℕ × List Value)
entry_of b item = if length (values b item.1) == 0 then [] else (item.0, values b item.1) ∷ []

-- The map that a file represents: each node that has values, by the key that leads to it.
unfoldable pub contents : List ℕ → KeyValues
contents b = from_sorted (flat_map (entry_of b) (all_items b))

-- The values with one more, which goes before the first one whose priority isn't less.
abbrev pub insert_first : Value → List Value → List Value
insert_first v [] = v ∷ []
insert_first v (w ∷ ws) = if nat_le v.0 w.0 then v ∷ w ∷ ws else w ∷ insert_first v ws

-- The values by rising priority. Values of one priority keep their order.
abbrev pub by_priority : List Value → List Value
by_priority [] = []
by_priority (v ∷ vs) = insert_first v (by_priority vs)

-- The values of the keys that match a text as patterns, in the order of the entries.
abbrev pub values_matching : List (List ℕ × List Value) → List ℕ → List Value
values_matching es text = flat_map (λ e. if is_match e.0 text then e.1 else []) es

-- The values of every key of a map that matches a text as a pattern: by rising priority, then by
-- the bytes of the key, then by place.
unfoldable pub wild_values : KeyValues → List ℕ → List Value
wild_values m text = by_priority (values_matching (entries m) text)
