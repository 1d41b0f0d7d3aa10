-- Names of places, in the order of the places.
use Rattle.std.proofs.Common.{◌≡◌, ℕ, ◌<◌, Bool, true, false, eqb, List, [], ◌∷◌, ◌++◌, length}
use Rattle.std.proofs.Common.{take, map, get_or, refl, sym, ap, ◌∙◌, inl, inr, arith}
use Rattle.std.specs.Prelude.{◌⊎◌}
use Rattle.std.specs.List.{AllByRecursion, IsDistinct}
use Rattle.std.specs.Str.{bytes_eq}
use Rattle.std.proofs.lemmas.Bool.{true≢false, or_cases, or_left, or_right, eqb-true, eq-eqb}
use Rattle.std.proofs.lemmas.Slice.Eq.{bytes_eq-Decides}
use Rattle.relation_order.specs.Sets.{has}
use Rattle.name_table.specs.FirstSeen.{is_among}

module _ (f : ℕ → List ℕ) where
  pub from-name : (xs : List ℕ) (name : List ℕ) → is_among (map f xs) name ≡ true
      → (x : ℕ) × (has xs x ≡ true) × (f x ≡ name)
  from-name [] name h = absurd (true≢false (sym h))
  from-name (x ∷ xs) name h = go (or_cases _ _ h) (from-name xs name)
    where
      go : (bytes_eq name (f x) ≡ true) ⊎ (is_among (map f xs) name ≡ true)
          → (is_among (map f xs) name ≡ true → (y : ℕ) × (has xs y ≡ true) × (f y ≡ name))
          → (y : ℕ) × (has (x ∷ xs) y ≡ true) × (f y ≡ name)
      go (inl e) ih = (x, or_left _ _ (eq-eqb x x refl), sym ((bytes_eq-Decides name (f x)).0 e))
      go (inr m) ih = let w = ih m in (w.0, or_right _ _ w.1, w.2)

  pub to-name : (xs : List ℕ) (x : ℕ) → has xs x ≡ true → is_among (map f xs) (f x) ≡ true
  to-name [] x h = absurd (true≢false (sym h))
  to-name (y ∷ ys) x h = go (or_cases _ _ h) (to-name ys x)
    where
      go : (eqb x y ≡ true) ⊎ (has ys x ≡ true)
          → (has ys x ≡ true → is_among (map f ys) (f x) ≡ true)
          → is_among (map f (y ∷ ys)) (f x) ≡ true
      go (inl e) ih = or_left _ _ ((bytes_eq-Decides (f x) (f y)).1 (ap f (eqb-true x y e)))
      go (inr m) ih = or_right _ _ (ih m)

  -- where a name stands among those of places, its place stands among the places
  pub parted : (xs : List ℕ) (before after : List (List ℕ)) (name : List ℕ)
      → map f xs ≡ before ++ name ∷ after
      → (length before < length xs) × (f (get_or xs (length before) 0) ≡ name)
      × (map f (take (length before) xs) ≡ before)
  parted [] [] after name e = absurd (let bad = e in cc)
  parted [] (b ∷ before) after name e = absurd (let bad = e in cc)
  parted (x ∷ xs) [] after name e = (omega arith, cc, refl)
  parted (x ∷ xs) (b ∷ before) after name e =
      let head : f x ≡ b = cc in
      let rest : map f xs ≡ before ++ name ∷ after = cc in
      let w = parted xs before after name rest in
      (omega (arith, w.0), w.1, λ i. head i ∷ w.2 i)

  apart : (x : ℕ) (ys : List ℕ) → ((y : ℕ) → has ys y ≡ true → f x ≡ f y → x ≡ y)
      → AllByRecursion (λ y. eqb x y ≡ false) ys
      → AllByRecursion (λ n. bytes_eq (f x) n ≡ false) (map f ys)
  apart x [] one h = tt
  apart x (y ∷ ys) one h
      = (go (bytes_eq (f x) (f y)) refl, apart x ys (λ z m. one z (or_right _ _ m)) h.1)
    where
      go : (b : Bool) → bytes_eq (f x) (f y) ≡ b → b ≡ false
      go false e = refl
      go true e =
          absurd (true≢false
          (sym (eq-eqb x y (one y (or_left _ _ (eq-eqb y y refl))
          ((bytes_eq-Decides (f x) (f y)).0 e)))
          ∙ h.0))

  -- distinct places have distinct names, where no two have one name
  pub distinct-names : (xs : List ℕ)
      → ((x y : ℕ) → has xs x ≡ true → has xs y ≡ true → f x ≡ f y → x ≡ y) → IsDistinct eqb xs
      → IsDistinct bytes_eq (map f xs)
  unfolding IsDistinct
  distinct-names [] one d = tt
  distinct-names (x ∷ xs) one d = (
    apart x xs (λ y m. one x y (or_left _ _ (eq-eqb x x refl)) (or_right _ _ m)) d.0,
    distinct-names xs (λ y z m n. one y z (or_right _ _ m) (or_right _ _ n)) d.1,
  )
