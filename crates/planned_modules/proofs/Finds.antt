-- What a function gives for some items, an item more at a time: the first of it, or all. Whether a
-- name is among some.
use Rattle.std.proofs.Common.{◌≡◌, ℕ, zero, suc, ◌+◌, ◌<◌, List, [], ◌∷◌, ◌++◌, length, take, map}
use Rattle.std.proofs.Common.{get_or, Option, Some, None, sym, ap, ◌∙◌, arith}
use Rattle.std.specs.Prelude.{◌||◌}
use Rattle.std.specs.List.{flat_map}
use Rattle.std.specs.Str.{bytes_eq}
use Rattle.std.proofs.lemmas.List.{take_more, map-append, append-nil}
use Rattle.std.proofs.lemmas.List.Folds.{list_any_more}
use Rattle.std.proofs.lemmas.Grind.{flat_map-append}
use Rattle.km_names.specs.First.{first}
use Rattle.name_table.specs.FirstSeen.{is_among}

module _ {X Y : Type 0} (f : X → Option Y) where
  pub first-here : (xs : List X) (i : ℕ) (x : X) (y : Y) → i < length xs → x ≡ get_or xs i x
      → first (map f (take i xs)) ≡ None → f x ≡ Some y → first (map f xs) ≡ Some y
  first-here [] i x y l is none t = absurd (omega arith)
  first-here (z ∷ zs) zero x y l is none t = ap (λ o. first (o ∷ map f zs)) (ap f (sym is) ∙ t)
  first-here (z ∷ zs) (suc i) x y l is none t = go (f z) none (first-here zs i x y (omega arith) is)
    where
      go : (o : Option Y) → first (o ∷ map f (take i zs)) ≡ None
          → (first (map f (take i zs)) ≡ None → f x ≡ Some y → first (map f zs) ≡ Some y)
          → first (o ∷ map f zs) ≡ Some y
      go None none ih = ih none t
      go (Some w) none ih = absurd (let bad = none in cc)

  first-suc : (xs : List X) (i : ℕ) (x : X) → i < length xs → x ≡ get_or xs i x
      → first (map f (take i xs)) ≡ None → f x ≡ None → first (map f (take (suc i) xs)) ≡ None
  first-suc [] i x l is none t = absurd (omega arith)
  first-suc (z ∷ zs) zero x l is none t = nothing zs (ap f (sym is) ∙ t)
    where
      nothing : (zs : List X) → f z ≡ None → first (map f (z ∷ take zero zs)) ≡ None
      nothing [] t = ap (λ o. first (o ∷ [])) t
      nothing (y ∷ ys) t = ap (λ o. first (o ∷ [])) t
  first-suc (z ∷ zs) (suc i) x l is none t = go (f z) none (first-suc zs i x (omega arith) is)
    where
      go : (o : Option Y) → first (o ∷ map f (take i zs)) ≡ None
          → (first (map f (take i zs)) ≡ None → f x ≡ None → first (map f (take (suc i) zs)) ≡ None)
          → first (o ∷ map f (take (suc i) zs)) ≡ None
      go None none ih = ih none t
      go (Some w) none ih = absurd (let bad = none in cc)

  pub first-more : (xs : List X) (i : ℕ) (x : X) → i < length xs → x ≡ get_or xs i x
      → first (map f (take i xs)) ≡ None → f x ≡ None → first (map f (take (i + 1) xs)) ≡ None
  first-more xs i x l is none t =
      ap (λ n. first (map f (take n xs))) (let e : i + 1 ≡ suc i = omega arith in e)
      ∙ first-suc xs i x l is none t

pub map-more : {X Y : Type 0} (f : X → Y) (xs : List X) (i : ℕ) (x : X) → i < length xs
    → x ≡ get_or xs i x → map f (take (i + 1) xs) ≡ map f (take i xs) ++ f x ∷ []
map-more f xs i x l is =
    ap (map f) (take_more xs i x l) ∙ map-append f (take i xs) (get_or xs i x ∷ [])
    ∙ ap (λ y. map f (take i xs) ++ f y ∷ []) (sym is)

pub flat-more : {X Y : Type 0} (f : X → List Y) (xs : List X) (i : ℕ) (x : X) → i < length xs
    → x ≡ get_or xs i x → flat_map f (take (i + 1) xs) ≡ flat_map f (take i xs) ++ f x
flat-more f xs i x l is =
    ap (flat_map f) (take_more xs i x l) ∙ flat_map-append f (take i xs) (get_or xs i x ∷ [])
    ∙ ap (λ ys. flat_map f (take i xs) ++ ys) (append-nil (f (get_or xs i x)))
    ∙ ap (λ y. flat_map f (take i xs) ++ f y) (sym is)

pub among-next : (names : List (List ℕ)) (i : ℕ) (name other : List ℕ) → i < length names
    → name ≡ get_or names i name
    → is_among (take (i + 1) names) other ≡ (is_among (take i names) other || bytes_eq other name)
among-next names i name other l is =
    list_any_more (bytes_eq other) names i name l
    ∙ ap (λ n. is_among (take i names) other || bytes_eq other n) (sym is)
