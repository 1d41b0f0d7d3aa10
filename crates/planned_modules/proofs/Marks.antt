-- Marks of places that pass a test.
use Rattle.std.proofs.Common.{◌≡◌, ℕ, ◌+◌, Bool, false, List, [], ◌∷◌, ◌++◌, length, map, Ok, Err}
use Rattle.std.proofs.Common.{sym, ap, ◌∙◌, arith}
use Rattle.std.specs.Prelude.{filter, slice_index_or, Result, IfOk}
use Rattle.std.proofs.lemmas.List.FromFn.{length-map-range_with_len, get_or-map-range_with_len}
use Rattle.std.proofs.lemmas.List.FromFn.{map-range_with_len_more}
use Rattle.relation_order.specs.Sets.{below, marked}
use Rattle.relation_order.proofs.Lists.{range-has}
use Rattle.relation_order.proofs.Saturation.{filter-same}

-- what follows from what a result promises
pub then-ok : {A E : Type 0} (r : Result A E) (P Q : A → Type 0) → ((a : A) → P a → Q a) → IfOk r P
    → IfOk r Q
then-ok (Ok a) P Q f p = f a p
then-ok (Err e) P Q f p = tt

pub marked-map : (p : ℕ → Bool) (n : ℕ) (marks : List Bool) → marks ≡ map p (below n)
    → marked marks ≡ filter p (below n)
marked-map p n marks e =
    ap marked e
    ∙ ap (λ k. filter (λ y. slice_index_or (map p (below n)) y false) (below k))
    (length-map-range_with_len p 0 n)
    ∙ filter-same (λ y. slice_index_or (map p (below n)) y false) p (below n)
    (λ y h. let w
    = range-has 0 n y h in get_or-map-range_with_len p 0 n y y false (omega arith)
    (omega arith))

pub length-marks : (p : ℕ → Bool) (n : ℕ) (marks : List Bool) → marks ≡ map p (below n)
    → length marks ≡ n
length-marks p n marks e = ap length e ∙ length-map-range_with_len p 0 n

pub mark-more : (p : ℕ → Bool) (n : ℕ) (marks marks' : List Bool) (b : Bool)
    → marks ≡ map p (below n) → marks' ≡ marks ++ b ∷ [] → b ≡ p n → marks' ≡ map p (below (n + 1))
mark-more p n marks marks' b old made is =
    made ∙ (λ i. old i ++ is i ∷ []) ∙ sym (map-range_with_len_more p 0 n n (omega arith))
