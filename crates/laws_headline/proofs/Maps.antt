-- What maps of listed entries have, and the files of such maps.
use Rattle.std.proofs.Common.{◌≡◌, ◌∙◌, ℕ, List, [], ◌∷◌, length, map, refl, sym, ap, arith}
use Rattle.std.specs.Prelude.{unwrap_or}
use Rattle.std.specs.declared.cmp.Ordering.{Ordering}
use Rattle.std.specs.Ordering.{nat_cmp}
use Rattle.std.specs.Cmp.{IsTotalOrder}
use Rattle.std.specs.Cmp.Lexicographic.{slice_cmp, nat_list_cmp_total}
use Rattle.std.specs.FinMap.{empty, entries, find, put, from_entries, entries-insert, get-entries}
use Rattle.std.specs.FinMap.{len-empty, len-entries}
use Rattle.index_format.specs.Map.{Value, KeyValues, place, values_of, with_value}
use Rattle.index_format.specs.Tree.{Entry, tree}
use Rattle.index_format.specs.File.{file, file_of, written}
use Rattle.index_format.specs.declared.numbers.TheConstants.{FIRST_PLACE}
use Rattle.mod_tree.specs.Order.{in_order}

no_length : {A : Type 0} (es : List A) → length es ≡ 0 → es ≡ []
no_length [] e = refl
no_length (x ∷ es) e = absurd (omega arith)

pub entries-none : {K X : Type 0} (R : K → K → Ordering) → entries (empty {X = X} {R = R}) ≡ []
entries-none {K} {X} R = no_length _ (sym (len-entries (empty {X = X} {R = R})) ∙ len-empty R X)

-- entries that are put in one after the other, from the last to the first
abbrev pub puts : {K X : Type 0} → (K → K → Ordering) → List (K × X) → List (K × X)
puts R [] = []
puts R (e ∷ es) = put R e.0 e.1 (puts R es)

pub entries-of : {K X : Type 0} {R : K → K → Ordering} → IsTotalOrder R → (es : List (K × X))
    → entries (from_entries {R = R} es) ≡ puts R es
entries-of {R = R} o [] = entries-none R
entries-of {R = R} o (e ∷ es) =
    entries-insert o (from_entries es) e.0 e.1 ∙ ap (put R e.0 e.1) (entries-of o es)

-- elements of a list, each with nothing
abbrev pub alone : {K : Type 0} → List K → List (K × Unit {0})
alone xs = map (λ x. (x, tt {0})) xs

pub in_order-of : {K : Type 0} {R : K → K → Ordering} → IsTotalOrder R → (xs : List K)
    → in_order R xs ≡ map (λ e. e.0) (puts R (alone xs))
unfolding in_order
in_order-of o xs = ap (λ es. map (λ e. e.0) es) (entries-of o (alone xs))

-- the entries with one more value
pub entries-more : (m : KeyValues) (es : List Entry) (key : List ℕ) (v : Value) → entries m ≡ es
    → entries (with_value m key v)
    ≡ put (slice_cmp nat_cmp) key (place (unwrap_or (find (slice_cmp nat_cmp) key es) []) v) es
entries-more m es key v is =
    entries-insert nat_list_cmp_total m key (place (values_of m key) v)
    ∙ ap (λ o. put (slice_cmp nat_cmp) key (place (unwrap_or o []) v) (entries m))
    (get-entries m key)
    ∙ ap (λ fs. put (slice_cmp nat_cmp) key
    (place (unwrap_or (find (slice_cmp nat_cmp) key fs) []) v) fs) is

-- the file of a map with these entries
pub file-of : (m : KeyValues) (es : List Entry) → entries m ≡ es
    → file m ≡ file_of (written FIRST_PLACE (tree es))
unfolding file
file-of m es is = ap (λ fs. file_of (written FIRST_PLACE (tree fs))) is
