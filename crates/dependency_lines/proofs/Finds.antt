-- The first of some items that passes a test, an item more at a time.
use Rattle.std.proofs.Common.{◌≡◌, ℕ, zero, suc, ◌+◌, ◌<◌, Bool, true, false, cond, List, [], ◌∷◌}
use Rattle.std.proofs.Common.{◌++◌, length, take, map, get_or, Option, Some, None, refl, sym, ap}
use Rattle.std.proofs.Common.{◌∙◌, arith}
use Rattle.std.specs.List.{find}
use Rattle.std.specs.Option.{option_map}

module _ {X Y : Type 0} (p : Y → Bool) (f : X → Y) where
  -- the item at a place, before which none passes
  pub find-here : (xs : List X) (i : ℕ) (x : X) → i < length xs → x ≡ get_or xs i x
      → find p (map f (take i xs)) ≡ None → p (f x) ≡ true → find p (map f xs) ≡ Some (f x)
  find-here [] i x l is none t = absurd (omega arith)
  find-here (z ∷ zs) zero x l is none t
      = ap (λ b. cond b (Some (f z)) (find p (map f zs))) (ap (λ y. p (f y)) (sym is) ∙ t)
      ∙ ap (λ y. Some (f y)) (sym is)
  find-here (z ∷ zs) (suc i) x l is none t = go (p (f z)) none (find-here zs i x (omega arith) is)
    where
      go : (b : Bool) → cond b (Some (f z)) (find p (map f (take i zs))) ≡ None
          → (find p (map f (take i zs)) ≡ None → p (f x) ≡ true → find p (map f zs) ≡ Some (f x))
          → cond b (Some (f z)) (find p (map f zs)) ≡ Some (f x)
      go true none ih = absurd (let bad = none in cc)
      go false none ih = ih none t

  -- one item more that doesn't pass
  find-suc : (xs : List X) (i : ℕ) (x : X) → i < length xs → x ≡ get_or xs i x
      → find p (map f (take i xs)) ≡ None → p (f x) ≡ false
      → find p (map f (take (suc i) xs)) ≡ None
  find-suc [] i x l is none t = absurd (omega arith)
  find-suc (z ∷ zs) zero x l is none t = nothing zs (ap (λ y. p (f y)) (sym is) ∙ t)
    where
      nothing : (zs : List X) → p (f z) ≡ false → find p (map f (z ∷ take zero zs)) ≡ None
      nothing [] t = ap (λ b. cond b (Some (f z)) None) t
      nothing (y ∷ ys) t = ap (λ b. cond b (Some (f z)) None) t
  find-suc (z ∷ zs) (suc i) x l is none t = go (p (f z)) none (find-suc zs i x (omega arith) is)
    where
      go : (b : Bool) → cond b (Some (f z)) (find p (map f (take i zs))) ≡ None
          → (find p (map f (take i zs)) ≡ None → p (f x) ≡ false
          → find p (map f (take (suc i) zs)) ≡ None)
          → cond b (Some (f z)) (find p (map f (take (suc i) zs))) ≡ None
      go true none ih = absurd (let bad = none in cc)
      go false none ih = ih none t

  pub find-more : (xs : List X) (i : ℕ) (x : X) → i < length xs → x ≡ get_or xs i x
      → find p (map f (take i xs)) ≡ None → p (f x) ≡ false
      → find p (map f (take (i + 1) xs)) ≡ None
  find-more xs i x l is none t =
      ap (λ n. find p (map f (take n xs))) (let e : i + 1 ≡ suc i = omega arith in e)
      ∙ find-suc xs i x l is none t

same : {X : Type 0} (xs : List X) → map (λ x. x) xs ≡ xs
same [] = refl
same (x ∷ xs) = ap (λ ys. x ∷ ys) (same xs)

module _ {X : Type 0} (p : X → Bool) where
  pub plain-here : (xs : List X) (i : ℕ) (x : X) → i < length xs → x ≡ get_or xs i x
      → find p (take i xs) ≡ None → p x ≡ true → find p xs ≡ Some x
  plain-here xs i x l is none t
      = ap (find p) (sym (same xs))
      ∙ find-here p (λ x. x) xs i x l is (ap (find p) (same (take i xs)) ∙ none) t

  pub plain-more : (xs : List X) (i : ℕ) (x : X) → i < length xs → x ≡ get_or xs i x
      → find p (take i xs) ≡ None → p x ≡ false → find p (take (i + 1) xs) ≡ None
  plain-more xs i x l is none t
      = ap (find p) (sym (same (take (i + 1) xs)))
      ∙ find-more p (λ x. x) xs i x l is (ap (find p) (same (take i xs)) ∙ none) t

  -- the items behind those of which one passes, or none
  pub before-others : (xs ys : List X) (x : X) → find p xs ≡ Some x → find p (xs ++ ys) ≡ Some x
  before-others [] ys x e = absurd (let bad = e in cc)
  before-others (z ∷ zs) ys x e = go (p z) e (before-others zs ys x)
    where
      go : (b : Bool) → cond b (Some z) (find p zs) ≡ Some x
          → (find p zs ≡ Some x → find p (zs ++ ys) ≡ Some x)
          → cond b (Some z) (find p (zs ++ ys)) ≡ Some x
      go true e ih = e
      go false e ih = ih e

  pub behind-none : (xs ys : List X) → find p xs ≡ None → find p (xs ++ ys) ≡ find p ys
  behind-none [] ys e = refl
  behind-none (z ∷ zs) ys e = go (p z) e (behind-none zs ys)
    where
      go : (b : Bool) → cond b (Some z) (find p zs) ≡ None
          → (find p zs ≡ None → find p (zs ++ ys) ≡ find p ys)
          → cond b (Some z) (find p (zs ++ ys)) ≡ find p ys
      go true e ih = absurd (let bad = e in cc)
      go false e ih = ih e

pub option-none : {X Y : Type 0} (f : X → Y) (o : Option X) → option_map f o ≡ None → o ≡ None
option-none f None e = refl
option-none f (Some x) e = absurd (let bad = e in cc)
