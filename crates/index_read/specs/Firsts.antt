-- The keys of an index that have a value, each with its first one.
use Rattle.std.specs.Prelude.{ℕ, List, map, take, flat_map}
use Rattle.index_format.specs.Map.{Value}
use Rattle.index_format.specs.Listing.{KeyValue}

-- The keys of some entries, each with the first of its values, if it has one.
abbrev pub firsts_of : List (List ℕ × List Value) → List KeyValue
firsts_of entries = flat_map (λ e. map (λ v. (e.0, v)) (take 1 e.1)) entries

-- A walk over first values: the key of the value that came last, and what is still to come.
pub record FirstsLeft : Type 0 where
  pub key : List ℕ
  pub left : List KeyValue
