-- A list by rising numbers, in which items of one number keep their order, is one list. Each item
-- is inserted, from the last on, before the first whose number isn't less.
use Rattle.std.proofs.Common.{◌≡◌, ◌≢◌, ◌≤◌, ◌<◌, ◌==◌, le-ltb, lt-ltb, ◌⊎◌, inl, inr, refl, sym}
use Rattle.std.proofs.Common.{ap, ◌∙◌, ℕ, suc, Bool, true, false, cond, nat_le, List, [], ◌∷◌}
use Rattle.std.proofs.Common.{length, filter, get_or, arith, if◌then◌else◌}
use Rattle.std.specs.List.{AllByRecursion}
use Rattle.std.specs.List.Sorted.{IsNonDecreasingBy, IsSortedByKey, IsStableByKey, ties}
use Rattle.std.specs.Ordering.{nat_cmp, is_lt}
use Rattle.std.proofs.lemmas.Bool.Decides.{nat_tests}
use Rattle.std.proofs.lemmas.List.Sorted.{IsNonDecreasingBy-from_sort}

same_test : (p : ℕ) → (p == p) ≡ true
same_test p = grind (arith, nat_tests)

equal_test : (p q : ℕ) → p ≡ q → (p == q) ≡ true
equal_test p q h = grind (arith, nat_tests)

other_test : (p q : ℕ) → p ≢ q → (p == q) ≡ false
other_test p q h = grind (arith, nat_tests)

least_test : (a b : ℕ) → nat_le a b ≡ true → a ≤ b
least_test a b e = grind (arith, nat_tests)

more_test : (a b : ℕ) → nat_le a b ≡ false → b < a
more_test a b e = grind (arith, nat_tests)

which_less : (a b : ℕ) → (a < b) ⊎ ((a ≡ b) ⊎ (b < a))
which_less a b = grind (arith, nat_tests)

filter_same : {A : Type 0} (f g : A → Bool) → ((x : A) → f x ≡ g x) → (xs : List A)
    → filter f xs ≡ filter g xs
filter_same f g same [] = refl
filter_same f g same (x ∷ xs) =
    λ i. cond (same x i) (x ∷ filter_same f g same xs i) (filter_same f g same xs i)

module _ {A : Type 0} (n : A → ℕ) where
  -- a list with one more, which stands before the first one whose number isn't less
  abbrev pub insert_by : A → List A → List A
  insert_by x [] = x ∷ []
  insert_by x (y ∷ ys) = if nat_le (n x) (n y) then x ∷ y ∷ ys else y ∷ insert_by x ys

  -- a list by rising numbers, those of one number in the order that they had
  abbrev pub sorted_by : List A → List A
  sorted_by [] = []
  sorted_by (x ∷ xs) = insert_by x (sorted_by xs)

  -- ---- elements of one number

  abbrev of_number : ℕ → List A → List A
  of_number p xs = filter (λ x. n x == p) xs

  abbrev NotLess : ℕ → List A → Type 0
  NotLess p xs = AllByRecursion (λ x. p ≤ n x) xs

  abbrev Rises : List A → Type 0
  Rises [] = Unit {0}
  Rises (x ∷ xs) = NotLess (n x) xs × Rises xs

  not_less_than_less : (p q : ℕ) (xs : List A) → p ≤ q → NotLess q xs → NotLess p xs
  not_less_than_less p q [] low h = tt
  not_less_than_less p q (x ∷ xs) low h
      = (omega (arith, low, h.0), not_less_than_less p q xs low h.1)

  none_less : (p : ℕ) (xs : List A) → NotLess (suc p) xs → of_number p xs ≡ []
  none_less p [] h = refl
  none_less p (x ∷ xs) h = rw (other_test (n x) p (λ e. omega (arith, e, h.0))) (none_less p xs h.1)

  -- ---- two rising lists with the same elements of each number

  less_first : (x y : A) (xs ys : List A) → n x < n y → Rises (y ∷ ys)
      → of_number (n x) (x ∷ xs) ≡ of_number (n x) (y ∷ ys) → ⊥
  less_first x y xs ys low up same =
      let none : of_number (n x) (y ∷ ys) ≡ []
      = none_less (n x) (y ∷ ys) (
        omega (arith, low),
        not_less_than_less (suc (n x)) (n y) ys (omega (arith, low)) up.0,
      ) in
      let some : x ∷ of_number (n x) xs ≡ of_number (n x) (x ∷ xs) = rw (same_test (n x)) refl in
      let clash : x ∷ of_number (n x) xs ≡ [] = some ∙ same ∙ none in
      cc

  head_same : (x y : A) (xs ys : List A) → n x ≡ n y
      → of_number (n x) (x ∷ xs) ≡ of_number (n x) (y ∷ ys)
      → (x ≡ y) × (of_number (n x) xs ≡ of_number (n x) ys)
  head_same x y xs ys level same =
      let left : x ∷ of_number (n x) xs ≡ of_number (n x) (x ∷ xs) = rw (same_test (n x)) refl in
      let right : of_number (n x) (y ∷ ys) ≡ y ∷ of_number (n x) ys
      = ap (λ t. cond t (y ∷ of_number (n x) ys) (of_number (n x) ys))
      (equal_test (n y) (n x) (sym level)) in
      let both : x ∷ of_number (n x) xs ≡ y ∷ of_number (n x) ys = left ∙ same ∙ right in
      (cc, cc)

  tail_same : (x : A) (xs ys : List A) → ((p : ℕ) → of_number p (x ∷ xs) ≡ of_number p (x ∷ ys))
      → (p : ℕ) → of_number p xs ≡ of_number p ys
  tail_same x xs ys same p =
      elim (n x == p) as
      (λ t. cond t (x ∷ of_number p xs) (of_number p xs)
      ≡ cond t (x ∷ of_number p ys) (of_number p ys)
      → of_number p xs ≡ of_number p ys) [
        | true ↦ λ e. cc
        | false ↦ λ e. e
      ] (same p)

  same_list : (xs ys : List A) → Rises xs → Rises ys → ((p : ℕ) → of_number p xs ≡ of_number p ys)
      → xs ≡ ys
  same_list [] [] up down same = refl
  same_list [] (y ∷ ys) up down same =
      let some : of_number (n y) (y ∷ ys) ≡ y ∷ of_number (n y) ys = rw (same_test (n y)) refl in
      let clash : [] ≡ y ∷ of_number (n y) ys = same (n y) ∙ some in
      cc
  same_list (x ∷ xs) [] up down same =
      let some : of_number (n x) (x ∷ xs) ≡ x ∷ of_number (n x) xs = rw (same_test (n x)) refl in
      let clash : [] ≡ x ∷ of_number (n x) xs = sym (same (n x)) ∙ some in
      cc
  same_list (x ∷ xs) (y ∷ ys) up down same = elim (which_less (n x) (n y)) [
    | inl low ↦ absurd (less_first x y xs ys low down (same (n x)))
    | inr rest ↦ elim rest [
      | inl level ↦
          let heads = head_same x y xs ys level (same (n x)) in
          let tails = tail_same x xs ys (rw (sym heads.0) at same) in
          rw (heads.0) (ap (λ us. y ∷ us) (same_list xs ys up.1 down.1 tails))
      | inr low ↦ absurd (less_first y x ys xs low up (sym (same (n y))))
    ]
  ]

  -- ---- the list of the definition

  insert_by-not_less : (p : ℕ) (x : A) (ys : List A) → p ≤ n x → NotLess p ys
      → NotLess p (insert_by x ys)
  insert_by-not_less p x [] low h = (low, tt)
  insert_by-not_less p x (y ∷ ys) low h =
      elim (nat_le (n x) (n y)) as (λ t. NotLess p (cond t (x ∷ y ∷ ys) (y ∷ insert_by x ys))) [
        | true ↦ (low, h)
        | false ↦ (h.0, insert_by-not_less p x ys low h.1)
      ]

  insert_by-rises : (x : A) (ys : List A) → Rises ys → Rises (insert_by x ys)
  insert_by-rises x [] up = (tt, tt)
  insert_by-rises x (y ∷ ys) up =
      elim (nat_le (n x) (n y)) as
      (λ t. nat_le (n x) (n y) ≡ t → Rises (cond t (x ∷ y ∷ ys) (y ∷ insert_by x ys))) [
        | true ↦ λ e. let low
            = least_test (n x) (n y) e in ((low, not_less_than_less (n x) (n y) ys low up.0), up)
        | false ↦ λ e. let low
            = more_test (n x) (n y) e in
            (insert_by-not_less (n y) x ys (omega (arith, low)) up.0, insert_by-rises x ys up.1)
      ] refl

  -- Of one number, the later of two of different numbers may come first.
  swapped : (p : ℕ) (x y : A) (us : List A) → n x ≢ n y
      → cond (n y == p) (y ∷ cond (n x == p) (x ∷ us) us) (cond (n x == p) (x ∷ us) us)
      ≡ cond (n x == p) (x ∷ cond (n y == p) (y ∷ us) us) (cond (n y == p) (y ∷ us) us)
  swapped p x y us apart =
      elim (n y == p) as
      (λ s. (n y == p) ≡ s
      → cond s (y ∷ cond (n x == p) (x ∷ us) us) (cond (n x == p) (x ∷ us) us)
      ≡ cond (n x == p) (x ∷ cond s (y ∷ us) us) (cond s (y ∷ us) us)) [
        | true ↦ λ is. rw (other_test (n x) p (λ e. apart (grind (arith, nat_tests)))) refl
        | false ↦ λ _. refl
      ] refl

  insert_by-number : (p : ℕ) (x : A) (ys : List A)
      → of_number p (insert_by x ys) ≡ of_number p (x ∷ ys)
  insert_by-number p x [] = refl
  insert_by-number p x (y ∷ ys) =
      elim (nat_le (n x) (n y)) as
      (λ t. nat_le (n x) (n y) ≡ t
      → of_number p (cond t (x ∷ y ∷ ys) (y ∷ insert_by x ys)) ≡ of_number p (x ∷ y ∷ ys)) [
        | true ↦ λ _. refl
        | false ↦ λ e.
            let low = more_test (n x) (n y) e in
            ap (λ us. cond (n y == p) (y ∷ us) us) (insert_by-number p x ys)
            ∙ swapped p x y (of_number p ys) (λ level. omega (arith, low, level))
      ] refl

  sorted_by-rises : (xs : List A) → Rises (sorted_by xs)
  sorted_by-rises [] = tt
  sorted_by-rises (x ∷ xs) = insert_by-rises x (sorted_by xs) (sorted_by-rises xs)

  sorted_by-same : (p : ℕ) (xs : List A) → of_number p (sorted_by xs) ≡ of_number p xs
  sorted_by-same p [] = refl
  sorted_by-same p (x ∷ xs) =
      insert_by-number p x (sorted_by xs)
      ∙ ap (λ us. cond (n x == p) (x ∷ us) us) (sorted_by-same p xs)

  -- ---- what a sort gives

  not_less_from : (p : ℕ) (xs : List A) → ((i : ℕ) (d : A) → i < length xs → p ≤ n (get_or xs i d))
      → NotLess p xs
  not_less_from p [] h = tt
  not_less_from p (x ∷ xs) h
      = (h 0 x (omega arith), not_less_from p xs (λ i d low. h (suc i) d (omega (arith, low))))

  rises_from : (xs : List A) → IsNonDecreasingBy n xs → Rises xs
  rises_from [] h = tt
  rises_from (x ∷ xs) h = (
    not_less_from (n x) xs (λ i d low. h 0 (suc i) d (omega arith) (omega (arith, low))),
    rises_from xs
        (λ i j d order low. h (suc i) (suc j) d (omega (arith, order)) (omega (arith, low))),
  )

  tie_test : (x y : A) → ties (λ (a b : A). is_lt (nat_cmp (n a) (n b))) x y ≡ (n y == n x)
  tie_test x y = elim (which_less (n x) (n y)) [
    | inl low ↦ rw (
      le-ltb (n y) (n x) (omega (arith, low)),
      lt-ltb (n x) (n y) low,
      other_test (n y) (n x) (λ e. omega (arith, e, low)),
    ) refl
    | inr rest ↦ elim rest [
      | inl level ↦ rw (level, le-ltb (n y) (n y) (omega arith), same_test (n y)) refl
      | inr low ↦ rw (
        lt-ltb (n y) (n x) low,
        le-ltb (n x) (n y) (omega (arith, low)),
        other_test (n x) (n y) (λ e. omega (arith, e, low)),
        other_test (n y) (n x) (λ e. omega (arith, e, low)),
      ) refl
    ]
  ]

  -- What a stable sort by the numbers gives is the list of the definition, where each number is the
  -- number of some element.
  pub stable-sorted_by : (some : ℕ → A) → ((p : ℕ) → n (some p) ≡ p) → (before after : List A)
      → IsSortedByKey n nat_cmp after → IsStableByKey n nat_cmp before after
      → after ≡ sorted_by before
  stable-sorted_by some is before after rises stable =
      same_list after (sorted_by before)
      (rises_from after (IsNonDecreasingBy-from_sort n after rises)) (sorted_by-rises before)
      (λ p.
      let of_tie
      = filter_same (ties (λ (a b : A). is_lt (nat_cmp (n a) (n b))) (some p)) (λ x. n x == p)
      (λ x. tie_test (some p) x ∙ ap (λ q. n x == q) (is p)) in
      sym (of_tie after) ∙ stable (some p) ∙ of_tie before ∙ sym (sorted_by-same p before))
