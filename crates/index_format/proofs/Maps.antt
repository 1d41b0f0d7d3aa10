-- What the map without keys has.
use Rattle.std.proofs.Common.{◌≡◌, refl, List, [], ◌∷◌, length, sym, ◌∙◌, arith}
use Rattle.std.specs.Ordering.{nat_cmp}
use Rattle.std.specs.Cmp.Lexicographic.{slice_cmp}
use Rattle.std.specs.FinMap.{empty, entries, len-entries, len-empty}
use Rattle.index_format.specs.Map.{Value}

no_length : {A : Type 0} (es : List A) → length es ≡ 0 → es ≡ []
no_length [] e = refl
no_length (x ∷ es) e = absurd (omega arith)

pub entries-empty : entries (empty {X = List Value} {R = slice_cmp nat_cmp}) ≡ []
entries-empty =
    no_length _ (sym (len-entries (empty {X = List Value} {R = slice_cmp nat_cmp}))
    ∙ len-empty (slice_cmp nat_cmp) (List Value))
