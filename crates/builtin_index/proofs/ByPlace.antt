-- The values that a key has in the map of some values: those put under it, by their priorities.
use Rattle.std.proofs.Common.{◌≡◌, ◌≢◌, ℕ, zero, suc, ◌+◌, ◌<◌, ◌≤◌, ◌==◌, ◌&&◌, ◌⊎◌, inl, inr}
use Rattle.std.proofs.Common.{Bool, true, false, cond, List, [], ◌∷◌, ◌++◌, map, filter, fold}
use Rattle.std.proofs.Common.{get_or, Some, refl, sym, ap, ◌∙◌, subst, arith, append_assoc}
use Rattle.std.proofs.Common.{append-nil, le-ltb, lt-ltb}
use Rattle.std.specs.Prelude.{nat_lt, unwrap_or}
use Rattle.std.specs.List.{AllByRecursion}
use Rattle.std.specs.List.Sorted.{IsSortedByKey, ties}
use Rattle.std.specs.Ordering.{nat_cmp, is_lt, is_eq}
use Rattle.std.specs.declared.cmp.Ordering.TheVariants.{Less, Equal, Greater}
use Rattle.std.specs.Cmp.Lexicographic.{slice_cmp}
use Rattle.std.specs.FinMap.{empty, get, get-empty}
use Rattle.std.proofs.lemmas.Bool.{cases_lt}
use Rattle.std.proofs.lemmas.Bool.Decides.{nat_tests}
use Rattle.index_format.specs.Map.{Value, KeyValues, values_of, place, with_value}
use Rattle.index_format.specs.Listing.{KeyValue, under, IsByPriority, with_values}
use Rattle.builtin_index.specs.Aliases.{alias_map, alias_values}
use Rattle.builtin_index.specs.Fields.{fields_of}
use Rattle.builtin_index.specs.Laws.{AreByPlace}
use Rattle.builtin_index.proofs.MapOrder.{more, both-parts, same_key, key-equal, values-after}

-- ---- the values of one number

abbrev of_number : ℕ → List Value → List Value
of_number p vs = filter (λ (v : Value). v.0 == p) vs

more-is-other : (p q : ℕ) → nat_lt p q ≡ true → (q == p) ≡ false
more-is-other p q h = grind (arith, nat_tests)

same-number : (a b : ℕ) → (a == b) ≡ true → a ≡ b
same-number a b h = grind (arith, nat_tests)

none-of : (p : ℕ) (vs : List Value) → more p vs ≡ true → of_number p vs ≡ []
none-of p [] h = refl
none-of p (v ∷ vs) h =
    let parts = both-parts (nat_lt p v.0) (more p vs) h in
    ap (λ t. cond t (v ∷ of_number p vs) (of_number p vs)) (more-is-other p v.0 parts.0)
    ∙ none-of p vs parts.1

pushed : (t : Bool) (x : Value) (us ws : List Value)
    → cond t (x ∷ (us ++ ws)) (us ++ ws) ≡ cond t (x ∷ us) us ++ ws
pushed true x us ws = refl
pushed false x us ws = refl

-- a value before others that are all greater
in-front : (p : ℕ) (vs : List Value) (v : Value) → more v.0 vs ≡ true
    → of_number p (v ∷ vs) ≡ of_number p vs ++ of_number p (v ∷ [])
in-front p vs v e =
    elim (v.0 == p) as
    (λ t. (v.0 == p) ≡ t
    → cond t (v ∷ of_number p vs) (of_number p vs) ≡ of_number p vs ++ cond t (v ∷ []) []) [
      | true ↦ λ is.
          let none : of_number p vs ≡ []
          = none-of p vs (subst (λ q. more q vs ≡ true) (same-number v.0 p is) e) in
          ap (λ us. v ∷ us) none ∙ sym (ap (λ us. us ++ v ∷ []) none)
      | false ↦ λ _. sym (append-nil (of_number p vs))
    ] refl

-- a value is put behind those of its number
placed-number : (p : ℕ) (vs : List Value) (v : Value)
    → of_number p (place vs v) ≡ of_number p vs ++ of_number p (v ∷ [])
placed-number p [] v = refl
placed-number p (x ∷ xs) v =
    elim (more v.0 (x ∷ xs)) as
    (λ t. more v.0 (x ∷ xs) ≡ t
    → of_number p (cond t (v ∷ x ∷ xs) (x ∷ place xs v))
    ≡ of_number p (x ∷ xs) ++ of_number p (v ∷ [])) [
      | true ↦ λ e. in-front p (x ∷ xs) v e
      | false ↦ λ _.
          ap (λ us. cond (x.0 == p) (x ∷ us) us) (placed-number p xs v)
          ∙ pushed (x.0 == p) x (of_number p xs) (of_number p (v ∷ []))
    ] refl

put-number : (p : ℕ) (done vs : List Value)
    → of_number p (fold place done vs) ≡ of_number p done ++ of_number p vs
put-number p done [] = sym (append-nil (of_number p done))
put-number p done (v ∷ vs) =
    put-number p (place done v) vs
    ∙ ap (λ us. us ++ of_number p vs) (placed-number p done v)
    ∙ append_assoc (of_number p done) (of_number p (v ∷ [])) (of_number p vs)
    ∙ ap (λ us. of_number p done ++ us) (sym (pushed (v.0 == p) v [] (of_number p vs)))

-- ---- the numbers rise

abbrev NotLess : ℕ → List Value → Type 0
NotLess p vs = AllByRecursion (λ (v : Value). p ≤ v.0) vs

abbrev Rises : List Value → Type 0
Rises [] = Unit {0}
Rises (v ∷ vs) = NotLess v.0 vs × Rises vs

less-from : (p q : ℕ) → nat_lt p q ≡ true → p ≤ q
less-from p q h = grind (arith, nat_tests)

less-test : (p q : ℕ) → p < q → nat_lt p q ≡ true
less-test p q low = grind (arith, nat_tests)

not-less-more : (p : ℕ) (vs : List Value) → more p vs ≡ true → NotLess p vs
not-less-more p [] h = tt
not-less-more p (v ∷ vs) h =
    let parts = both-parts (nat_lt p v.0) (more p vs) h in
    (less-from p v.0 parts.0, not-less-more p vs parts.1)

two : (a b : Bool) → a ≡ true → b ≡ true → (a && b) ≡ true
two a b one other = ap (λ x. x && b) one ∙ other

more-from : (p q : ℕ) (vs : List Value) → p < q → NotLess q vs → more p vs ≡ true
more-from p q [] low h = refl
more-from p q (v ∷ vs) low h =
    two (nat_lt p v.0) (more p vs) (less-test p v.0 (omega (arith, low, h.0)))
    (more-from p q vs low h.1)

not-less-placed : (p : ℕ) (vs : List Value) (v : Value) → p ≤ v.0 → NotLess p vs
    → NotLess p (place vs v)
not-less-placed p [] v low h = (low, tt)
not-less-placed p (x ∷ xs) v low h =
    elim (more v.0 (x ∷ xs)) as (λ t. NotLess p (cond t (v ∷ x ∷ xs) (x ∷ place xs v))) [
      | true ↦ (low, h)
      | false ↦ (h.0, not-less-placed p xs v low h.1)
    ]

-- one that isn't before all others isn't less than the first of them
behind : (x : Value) (xs : List Value) (v : Value) → NotLess x.0 xs → more v.0 (x ∷ xs) ≡ false
    → x.0 ≤ v.0
behind x xs v up e = elim (cases_lt v.0 x.0) [
  | inl low ↦
      let clash : true ≡ false = sym (more-from v.0 x.0 (x ∷ xs) low (omega arith, up)) ∙ e in
      absurd (cc)
  | inr high ↦ high
]

placed-rises : (vs : List Value) (v : Value) → Rises vs → Rises (place vs v)
placed-rises [] v up = (tt, tt)
placed-rises (x ∷ xs) v up =
    elim (more v.0 (x ∷ xs)) as
    (λ t. more v.0 (x ∷ xs) ≡ t → Rises (cond t (v ∷ x ∷ xs) (x ∷ place xs v))) [
      | true ↦ λ e. (not-less-more v.0 (x ∷ xs) e, up)
      | false ↦ λ e. (not-less-placed x.0 xs v (behind x xs v up.0 e) up.0, placed-rises xs v up.1)
    ] refl

put-rises : (done vs : List Value) → Rises done → Rises (fold place done vs)
put-rises done [] up = up
put-rises done (v ∷ vs) up = put-rises (place done v) vs (placed-rises done v up)

-- ---- the same by the words of a sort

not-lt : (a b : ℕ) → b ≤ a → is_lt (nat_cmp a b) ≡ false
not-lt a b h =
    ap (λ t. is_lt (cond t Less (cond (a == b) Equal Greater))) (le-ltb a b h) ∙ either (a == b)
  where
    either : (t : Bool) → is_lt (cond t Equal Greater) ≡ false
    either true = refl
    either false = refl

one-more : (k : ℕ) → suc (k + 1) ≡ suc k + 1
one-more k = omega arith

sorted-from : (vs : List Value) → Rises vs → IsSortedByKey (λ (v : Value). v.0) nat_cmp vs
sorted-from [] up k d low high = absurd (omega (arith, high))
sorted-from (x ∷ []) up k d low high = absurd (omega (arith, high))
sorted-from (x ∷ y ∷ vs) up zero d low high = not-lt y.0 x.0 up.0.0
sorted-from (x ∷ y ∷ vs) up (suc k) d low high =
    subst
    (λ n. is_lt (nat_cmp (get_or (x ∷ y ∷ vs) n d).0 (get_or (x ∷ y ∷ vs) (suc k) d).0) ≡ false)
    (one-more k)
    (sorted-from (y ∷ vs) up.1 k d (omega arith) (omega (arith, high)))

which-less : (a b : ℕ) → (a < b) ⊎ ((a ≡ b) ⊎ (b < a))
which-less a b = grind (arith, nat_tests)

same-test : (p : ℕ) → (p == p) ≡ true
same-test p = grind (arith, nat_tests)

other-test : (p q : ℕ) → p ≢ q → (p == q) ≡ false
other-test p q h = grind (arith, nat_tests)

tie-test : (x y : Value) → ties (λ (a b : Value). is_lt (nat_cmp a.0 b.0)) x y ≡ (y.0 == x.0)
tie-test x y = elim (which-less x.0 y.0) [
  | inl low ↦ rw (
    le-ltb y.0 x.0 (omega (arith, low)),
    lt-ltb x.0 y.0 low,
    other-test y.0 x.0 (λ e. omega (arith, e, low)),
  ) refl
  | inr rest ↦ elim rest [
    | inl level ↦ rw (level, le-ltb y.0 y.0 (omega arith), same-test y.0) refl
    | inr low ↦ rw (
      lt-ltb y.0 x.0 low,
      le-ltb x.0 y.0 (omega (arith, low)),
      other-test x.0 y.0 (λ e. omega (arith, e, low)),
      other-test y.0 x.0 (λ e. omega (arith, e, low)),
    ) refl
  ]
]

filter-same : (f g : Value → Bool) → ((v : Value) → f v ≡ g v) → (vs : List Value)
    → filter f vs ≡ filter g vs
filter-same f g same [] = refl
filter-same f g same (v ∷ vs) =
    λ i. cond (same v i) (v ∷ filter-same f g same vs i) (filter-same f g same vs i)

by-priority : (vs : List Value) → IsByPriority vs (fold place [] vs)
by-priority vs = record {
  rises = sorted-from (fold place [] vs) (put-rises [] vs tt);
  stable =
      λ x.
      let of_tie
      = filter-same (ties (λ (a b : Value). is_lt (nat_cmp a.0 b.0)) x) (λ v. v.0 == x.0)
      (tie-test x) in
      of_tie (fold place [] vs) ∙ put-number x.0 [] vs ∙ sym (of_tie vs);
}

-- ---- what a key has

pub put-values : (m : KeyValues) (vs : List KeyValue) (key : List ℕ)
    → values_of (with_values m vs) key ≡ fold place (values_of m key) (under key vs)
put-values m [] key = refl
put-values m (v ∷ vs) key =
    put-values (with_value m v.0 v.1) vs key
    ∙ ap (λ us. fold place us (under key vs)) (values-after m v.0 key v.1)
    ∙ go (same_key key v.0) refl
  where
    go : (b : Bool) → same_key key v.0 ≡ b
        → fold place (unwrap_or (cond b (Some (place (values_of m v.0) v.1)) (get m key)) [])
        (under key vs)
        ≡ fold place (values_of m key)
        (map (λ (p : KeyValue). p.1)
        (cond b (v ∷ filter (λ (p : KeyValue). is_eq (slice_cmp nat_cmp key p.0)) vs)
        (filter (λ (p : KeyValue). is_eq (slice_cmp nat_cmp key p.0)) vs)))
    go true is
        = ap (λ k. fold place (place (values_of m k) v.1) (under key vs))
        (sym (key-equal key v.0 is))
    go false is = refl

pub by-place : AreByPlace
unfolding alias_map
by-place bytes key =
    let values = alias_values (fields_of bytes) in
    let none : values_of empty key ≡ []
    = ap (λ o. unwrap_or o []) (get-empty (slice_cmp nat_cmp) key) in
    subst (IsByPriority (under key values))
    (sym (put-values empty values key ∙ ap (λ us. fold place us (under key values)) none))
    (by-priority (under key values))
