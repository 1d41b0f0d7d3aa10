-- The values and pairs of lookups as values of an index, and the values of all keys that match a
-- text.
use Rattle.std.specs.Prelude.{◌≡◌, ℕ, List, map}
use Rattle.index_format.specs.Map.{Value}
use Rattle.index_format.specs.Listing.{KeyValue, IsSelection, IsByPriority}
use Rattle.glob_pattern.specs.Pattern.{Matches}
use Rattle.index_read.specs.declared.value.Value.{Value as Found}
use Rattle.index_read.specs.declared.value.Pair.{Pair}

-- A value, and the values of a list.
abbrev pub value_of : Found → Value
value_of v = (v.priority, v.text)

abbrev pub found_values : List Found → List Value
found_values vs = map value_of vs

-- Keys, each with one of its values.
abbrev pub pair_of : Pair → KeyValue
pair_of p = (p.key, value_of p.value)

abbrev pub shown_pairs : List Pair → List KeyValue
shown_pairs ps = map pair_of ps

-- The values of every key that matches the text as a pattern, by key and then by place.
pub record IsMatching (values : List ℕ → List Value) (text : List ℕ) (found : List Value) : Type 0
  where
    pub pairs : List KeyValue
    pub matching : IsSelection (λ key. Matches key text) values pairs
    pub found_is : found ≡ map (λ p. p.1) pairs

-- The same values by rising priority. Values of one priority are by key and then by place.
pub record IsWild (values : List ℕ → List Value) (text : List ℕ) (found : List Value) : Type 0 where
  pub unordered : List Value
  pub matching : IsMatching values text unordered
  pub ordered : IsByPriority unordered found
