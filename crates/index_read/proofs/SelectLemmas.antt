-- What holds of the values of a file's keys holds of those of the map that it stands for.
use Rattle.std.proofs.Common.{◌≡◌, ◌∙◌, ℕ, List}
use Rattle.index_format.specs.Map.{Value}
use Rattle.index_read.specs.Values.{IsMatching}

pub matching_same : (f h : List ℕ → List Value) (text : List ℕ) (found : List Value)
    → ((key : List ℕ) → f key ≡ h key) → IsMatching f text found → IsMatching h text found
matching_same f h text found same m =
    let s = m.matching in
    record {
      pairs = m.pairs;
      matching
          = record { keys = s.keys; each = λ key p. s.each key p ∙ same key; others = s.others };
      found_is = m.found_is;
    }
