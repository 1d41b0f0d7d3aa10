-- Modules that were put at their numbers are by their numbers.
use Rattle.std.proofs.Common.{◌≡◌, refl, sym, ap, ◌∙◌, ℕ, zero, suc, ◌+◌, ◌<◌, ◌≤◌, ◌⊎◌, Bool, true}
use Rattle.std.proofs.Common.{false, cond, List, [], ◌∷◌, ◌++◌, length, filter, get_or, set, arith}
use Rattle.std.proofs.Common.{inl, inr, length-append}
use Rattle.std.specs.Prelude.{◌&&◌, ◌==◌, not}
use Rattle.std.proofs.Math.Bool.{and-false}
use Rattle.std.proofs.lemmas.Bool.{cases_eq, cases_lt, false_from_ne_true, false≢true, le-ltb}
use Rattle.std.proofs.lemmas.Bool.{lt-ltb}
use Rattle.std.proofs.lemmas.List.{get_or_append_left, get_or_default, get_or-set_other, length-set}
use Rattle.std.proofs.lemmas.Grind.{get_or-set_at}
use Rattle.std.proofs.Math.Seq.{get_or-append_seam}
use Rattle.std.specs.List.Sorted.{IsSortedByKey, IsStableByKey, ties}
use Rattle.std.specs.Ordering.{nat_cmp, is_lt}
use Rattle.std.specs.declared.cmp.Ordering.TheVariants.{Less, Equal, Greater}
use Rattle.index_format.specs.Listing.{KeyValue}
use Rattle.dependency_lines.specs.Modules.{by_number}
use Rattle.dependency_lines.specs.Places.{ArePlaces, number_at}
use Rattle.dependency_lines.proofs.ByNumber.{by_number-is}

-- ---- the items that pass a test

module _ {X : Type 0} (p : X → Bool) (d : X) where
  pub filter-nothing : (xs : List X) → ((k : ℕ) → k < length xs → p (get_or xs k d) ≡ true → ⊥)
      → filter p xs ≡ []
  filter-nothing [] h = refl
  filter-nothing (x ∷ xs) h =
      ap (λ t. cond t (x ∷ filter p xs) (filter p xs)) (false_from_ne_true _ (h 0 (omega arith)))
      ∙ filter-nothing xs (λ k l. h (suc k) (omega (arith, l)))

  filter-only : (xs : List X) (i : ℕ) → i < length xs → p (get_or xs i d) ≡ true
      → ((k : ℕ) → k < length xs → p (get_or xs k d) ≡ true → k ≡ i)
      → filter p xs ≡ get_or xs i d ∷ []
  filter-only [] i l t one = absurd (omega (arith, l))
  filter-only (x ∷ xs) zero l t one =
      ap (λ b. cond b (x ∷ filter p xs) (filter p xs)) t
      ∙ ap (λ ys. x ∷ ys)
      (filter-nothing xs
      (λ k m u. let e : suc k ≡ zero
      = one (suc k) (omega (arith, m)) u in omega (arith, e)))
  filter-only (x ∷ xs) (suc i) l t one =
      ap (λ b. cond b (x ∷ filter p xs) (filter p xs))
      (false_from_ne_true _
      (λ u. let e : zero ≡ suc i = one 0 (omega arith) u in omega (arith, e)))
      ∙ filter-only xs i (omega (arith, l)) t
      (λ k m u. let e : suc k ≡ suc i = one (suc k) (omega (arith, m)) u in omega (arith, e))

-- ---- numbers that are compared

not-lt : (a b : ℕ) → b ≤ a → is_lt (nat_cmp a b) ≡ false
not-lt a b l =
    ap (λ t. is_lt (cond t Less (cond (a == b) Equal Greater))) (le-ltb a b l) ∙ either (a == b)
  where
    either : (t : Bool) → is_lt (cond t Equal Greater) ≡ false
    either true = refl
    either false = refl

yes-lt : (a b : ℕ) → a < b → is_lt (nat_cmp a b) ≡ true
yes-lt a b l = ap (λ t. is_lt (cond t Less (cond (a == b) Equal Greater))) (lt-ltb a b l)

abbrev lt : KeyValue → KeyValue → Bool
lt a b = is_lt (nat_cmp a.1.0 b.1.0)

tied : (x y : KeyValue) → y.1.0 ≡ x.1.0 → ties lt x y ≡ true
tied x y e =
    λ i. not (not-lt x.1.0 y.1.0 (omega (arith, e)) i)
    && not (not-lt y.1.0 x.1.0 (omega (arith, e)) i)

pub same-number : (x y : KeyValue) → ties lt x y ≡ true → y.1.0 ≡ x.1.0
same-number x y t = go (cases_lt x.1.0 y.1.0) (cases_lt y.1.0 x.1.0)
  where
    go : (x.1.0 < y.1.0) ⊎ (y.1.0 ≤ x.1.0) → (y.1.0 < x.1.0) ⊎ (x.1.0 ≤ y.1.0) → y.1.0 ≡ x.1.0
    go (inl l) other
        = absurd (false≢true (sym (ap (λ b. not b && not (lt y x)) (yes-lt x.1.0 y.1.0 l)) ∙ t))
    go (inr l) (inl m)
        = absurd (false≢true
        (sym (ap (λ b. not (lt x y) && not b) (yes-lt y.1.0 x.1.0 m) ∙ and-false (not (lt x y)))
        ∙ t))
    go (inr l) (inr m) = omega (arith, l, m)

-- ---- the modules at their places

-- Each of these modules is the one at the place under its own place.
abbrev pub IsAtPlaces : List KeyValue → List ℕ → List KeyValue → ℕ → Type 0
IsAtPlaces lines places placed count =
    (k : ℕ) (d : KeyValue) → k < count
    → (get_or places k 0 < length lines)
    × (get_or placed k d ≡ get_or lines (get_or places k 0) d)

module _ (lines placed : List KeyValue) (places : List ℕ)
    (are : ArePlaces lines places (length lines)) (long : length placed ≡ length lines)
    (each : IsAtPlaces lines places placed (length lines)) where
  number-is : (k : ℕ) (d : KeyValue) → k < length lines → number_at placed k d ≡ k
  number-is k d l = let e = each k d l in ap (λ x. x.1.0) e.1 ∙ (are.there k d l e.0).1

  rises : IsSortedByKey (λ (l : KeyValue). l.1.0) nat_cmp placed
  rises k d low high =
      let a : number_at placed (k + 1) d ≡ k + 1
      = number-is (k + 1) d (omega (arith, high, long)) in
      let b : number_at placed k d ≡ k = number-is k d (omega (arith, high, long)) in
      not-lt (number_at placed (k + 1) d) (number_at placed k d) (omega (arith, a, b))

  stays : IsStableByKey (λ (l : KeyValue). l.1.0) nat_cmp lines placed
  stays x = go (cases_lt x.1.0 (length lines))
    where
      go : (x.1.0 < length lines) ⊎ (length lines ≤ x.1.0)
          → filter (ties lt x) placed ≡ filter (ties lt x) lines
      go (inl l) =
          let e = each x.1.0 x l in
          let own = number-is x.1.0 x l in
          filter-only (ties lt x) x placed x.1.0 (omega (arith, l, long))
          (tied x (get_or placed x.1.0 x) own)
          (λ k m t. sym (number-is k x (omega (arith, m, long)))
          ∙ same-number x (get_or placed k x) t)
          ∙ ap (λ y. y ∷ []) e.1
          ∙ sym (filter-only (ties lt x) x lines (get_or places x.1.0 0) e.0
          (tied x (get_or lines (get_or places x.1.0 0) x) (are.there x.1.0 x l e.0).1)
          (λ r m t. sym (are.back r x m).1
          ∙ ap (λ n. get_or places n 0) (same-number x (get_or lines r x) t)))
      go (inr l) =
          filter-nothing (ties lt x) x placed
          (λ k m t. let e : number_at placed k x ≡ k
          = number-is k x (omega (arith, m, long)) in let s
          = same-number x (get_or placed k x) t in omega (arith, e, s, l, m, long))
          ∙ sym (filter-nothing (ties lt x) x lines
          (λ r m t. let s
          = same-number x (get_or lines r x) t in omega (arith, (are.back r x m).0, s, l)))

  pub placed-is : placed ≡ by_number lines
  placed-is = by_number-is lines placed rises stays

-- ---- a place more

pub placing-more : (lines : List KeyValue) (places : List ℕ) (i : ℕ) (e : KeyValue)
    → i < length lines → number_at lines i e < length lines
    → length lines ≤ get_or places (number_at lines i e) 0 → ArePlaces lines places i
    → ArePlaces lines (set places (number_at lines i e) i) (i + 1)
placing-more lines places i e low inside free are = record {
  long = length-set places p i ∙ are.long;
  back = λ r d l. back-at r d l (cases_lt r i);
  there = λ k d l m. there-at k d l (cases_eq k p) m;
}
  where
    p : ℕ
    p = number_at lines i e

    room : p < length places
    room = omega (arith, inside, are.long)

    back-at : (r : ℕ) (d : KeyValue) → r < i + 1 → (r < i) ⊎ (i ≤ r)
        → (number_at lines r d < length lines)
        × (get_or (set places p i) (number_at lines r d) 0 ≡ r)
    back-at r d l (inl before) =
        let b = are.back r d before in (
          b.0,
          get_or-set_other places p (number_at lines r d) i 0
              (λ same. omega
              (arith, ap (λ n. get_or places n 0) same, b.1, free, before, low))
              ∙ b.1,
        )
    back-at r d l (inr last) =
        let here : r ≡ i = omega (arith, l, last) in
        let own : number_at lines r d ≡ p
        = ap (λ n. number_at lines n d) here
        ∙ ap (λ x. x.1.0) (get_or_default lines i d e low) in (
          omega (arith, own, inside),
          get_or-set_at places p (number_at lines r d) i 0 own room ∙ sym here,
        )

    there-at : (k : ℕ) (d : KeyValue) → k < length lines → (k ≡ p) ⊎ (k ≡ p → ⊥)
        → get_or (set places p i) k 0 < length lines
        → (get_or (set places p i) k 0 < i + 1)
        × (number_at lines (get_or (set places p i) k 0) d ≡ k)
    there-at k d l (inl same) m =
        let at = get_or-set_at places p k i 0 same room in (
          omega (arith, at),
          ap (λ n. number_at lines n d) at ∙ ap (λ x. x.1.0) (get_or_default lines i d e low)
              ∙ sym same,
        )
    there-at k d l (inr apart) m =
        let at = get_or-set_other places p k i 0 apart in
        let b = are.there k d l (omega (arith, at, m)) in
        (omega (arith, at, b.0), ap (λ n. number_at lines n d) at ∙ b.1)

pub at-more : (lines placed : List KeyValue) (places : List ℕ) (i : ℕ) (e : KeyValue)
    → get_or places i 0 < length lines → length placed ≡ i → IsAtPlaces lines places placed i
    → IsAtPlaces lines places (placed ++ get_or lines (get_or places i 0) e ∷ []) (i + 1)
at-more lines placed places i e inside long each = λ k d l. go k d l (cases_lt k i)
  where
    x : KeyValue
    x = get_or lines (get_or places i 0) e

    go : (k : ℕ) (d : KeyValue) → k < i + 1 → (k < i) ⊎ (i ≤ k)
        → (get_or places k 0 < length lines)
        × (get_or (placed ++ x ∷ []) k d ≡ get_or lines (get_or places k 0) d)
    go k d l (inl before) =
        let b = each k d before in
        (b.0, get_or_append_left placed (x ∷ []) d k (omega (arith, before, long)) ∙ b.1)
    go k d l (inr last) =
        let here : k ≡ i = omega (arith, l, last) in (
          omega (arith, ap (λ n. get_or places n 0) here, inside),
          ap (λ n. get_or (placed ++ x ∷ []) n d) (here ∙ sym long)
              ∙ get_or-append_seam placed x [] d
              ∙ get_or_default lines (get_or places i 0) e d inside
              ∙ ap (λ n. get_or lines (get_or places n 0) d) (sym here),
        )

pub length-more : (before after : List KeyValue) (x : KeyValue) (i : ℕ) → after ≡ before ++ x ∷ []
    → length before ≡ i → length after ≡ i + 1
length-more before after x i is long =
    omega (arith, ap length is, length-append before (x ∷ []), long)
