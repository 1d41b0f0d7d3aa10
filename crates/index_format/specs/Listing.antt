-- The values of many keys, each with its key. They are ordered by the bytes of the keys, and the
-- values of one key keep their order. Another order is by rising priority.
use Rattle.std.specs.Prelude.{◌≡◌, ℕ, List, [], map, filter, fold}
use Rattle.std.specs.List.Sorted.{IsSortedByKey, IsStableByKey}
use Rattle.std.specs.Ordering.{nat_cmp, is_eq}
use Rattle.std.specs.Cmp.Lexicographic.{slice_cmp}
use Rattle.std.specs.FinMap.{empty}
use Rattle.index_format.specs.Map.{Value, KeyValues, with_value}

-- A key with one of its values.
abbrev pub KeyValue : Type 0
KeyValue = List ℕ × Value

-- A map with more values, each put under its key.
abbrev pub with_values : KeyValues → List KeyValue → KeyValues
with_values m values = fold (λ m value. with_value m value.0 value.1) m values

-- The map of some values.
abbrev pub map_of : List KeyValue → KeyValues
map_of values = with_values empty values

-- The values of a key.
abbrev pub under : List ℕ → List KeyValue → List Value
under key ps = map (λ p. p.1) (filter (λ p. is_eq (slice_cmp nat_cmp key p.0)) ps)

-- The pairs are the values of all keys: their keys never fall, and each key has its values in their
-- order.
pub record IsListing (values : List ℕ → List Value) (ps : List KeyValue) : Type 0 where
  pub keys : IsSortedByKey (λ p. p.0) (slice_cmp nat_cmp) ps
  pub each : (key : List ℕ) → under key ps ≡ values key

-- The pairs are the values of all keys that a predicate selects, and of no other.
pub record IsSelection (Selects : List ℕ → Type 0) (values : List ℕ → List Value)
    (ps : List KeyValue) : Type 0 where
  pub keys : IsSortedByKey (λ p. p.0) (slice_cmp nat_cmp) ps
  pub each : (key : List ℕ) → Selects key → under key ps ≡ values key
  pub others : (key : List ℕ) → ¬ Selects key → under key ps ≡ []

-- The values by rising priority. Values of one priority keep their order.
pub record IsByPriority (before after : List Value) : Type 0 where
  pub rises : IsSortedByKey (λ v. v.0) nat_cmp after
  pub stable : IsStableByKey (λ v. v.0) nat_cmp before after
