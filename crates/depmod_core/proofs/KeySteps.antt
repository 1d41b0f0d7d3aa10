-- What passes a test, among what is kept and among names without repeats.
use Rattle.std.proofs.Common.{◌≡◌, refl, ap, ◌∙◌, subst, ℕ, zero, suc, Bool, true, false, not, ◌&&◌}
use Rattle.std.proofs.Common.{cond, List, [], ◌∷◌, filter, Some}
use Rattle.std.specs.List.{list_all, slice_get}
use Rattle.std.specs.Str.{bytes_eq}
use Rattle.index_write.proofs.VisibleWords.{both}
use Rattle.name_table.specs.FirstSeen.{first_seen}

-- what is kept passes
kept-or : {X : Type 0} (p : X → Bool) (x : X) (xs : List X) (keeps : Bool)
    → (keeps ≡ true → p x ≡ true) → list_all p xs ≡ true
    → list_all p (cond keeps (x ∷ xs) xs) ≡ true
kept-or p x xs true one rest = ap (λ a. a && list_all p xs) (one refl) ∙ rest
kept-or p x xs false one rest = rest

pub passes-filter : {X : Type 0} (p q : X → Bool) (xs : List X) → list_all p xs ≡ true
    → list_all p (filter q xs) ≡ true
passes-filter p q [] is = refl
passes-filter p q (x ∷ xs) is =
    let tests = both (p x) (list_all p xs) is in
    kept-or p x (filter q xs) (q x) (λ _. tests.0) (passes-filter p q xs tests.1)

pub kept-passes : {X : Type 0} (p : X → Bool) (xs : List X) → list_all p (filter p xs) ≡ true
kept-passes p [] = refl
kept-passes p (x ∷ xs) = kept-or p x (filter p xs) (p x) (λ is. is) (kept-passes p xs)

pub seen-passes : (p : List ℕ → Bool) (xs : List (List ℕ)) → list_all p xs ≡ true
    → list_all p (first_seen xs) ≡ true
seen-passes p [] is = refl
seen-passes p (x ∷ xs) is =
    let tests = both (p x) (list_all p xs) is in
    ap (λ a. a && list_all p (filter (λ y. not (bytes_eq y x)) (first_seen xs))) tests.0
    ∙ passes-filter p (λ y. not (bytes_eq y x)) (first_seen xs) (seen-passes p xs tests.1)

pub passes-at : {X : Type 0} (p : X → Bool) (xs : List X) (i : ℕ) (x : X) → list_all p xs ≡ true
    → slice_get xs i ≡ Some x → p x ≡ true
passes-at p [] i x is at = cc
passes-at p (y ∷ ys) zero x is at =
    subst (λ z. p z ≡ true) (the-same at) (both (p y) (list_all p ys) is).0
  where
    the-same : {X : Type 0} {a b : X} → Some a ≡ Some b → a ≡ b
    the-same e = cc
passes-at p (y ∷ ys) (suc i) x is at = passes-at p ys i x (both (p y) (list_all p ys) is).1 at
