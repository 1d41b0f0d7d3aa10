-- What is listed, path by path.
use Rattle.std.proofs.Common.{◌≡◌, ℕ, ◌+◌, true, false, List, [], ◌∷◌, ◌++◌, length, Some, None}
use Rattle.std.proofs.Common.{refl, sym, ap, ◌∙◌, arith, append_assoc}
use Rattle.std.specs.Prelude.{Option, is_some}
use Rattle.std.specs.Option.{option_map}
use Rattle.std.specs.List.{filter_map, cons_option}

-- one more path, of which this is listed
pub listed_more : (h : List ℕ → Option (List ℕ)) (path rest : List ℕ)
    (paths names all : List (List ℕ))
    → h path ≡ Some rest → names ++ filter_map h (path ∷ paths) ≡ all
    → (names ++ rest ∷ []) ++ filter_map h paths ≡ all
listed_more h path rest paths names all is e =
    append_assoc names (rest ∷ []) (filter_map h paths)
    ∙ ap (λ o. names ++ cons_option o (filter_map h paths)) (sym is) ∙ e

-- one more path, of which nothing is listed
pub listed_same : (h : List ℕ → Option (List ℕ)) (path : List ℕ) (paths names all : List (List ℕ))
    → h path ≡ None → names ++ filter_map h (path ∷ paths) ≡ all → names ++ filter_map h paths ≡ all
listed_same h path paths names all is e =
    ap (λ o. names ++ cons_option o (filter_map h paths)) (sym is) ∙ e

-- the same, counted
pub counted_more : (h : List ℕ → Option (List ℕ)) (path : List ℕ) (paths : List (List ℕ))
    (n all : ℕ)
    → is_some (h path) ≡ true → n + length (filter_map h (path ∷ paths)) ≡ all
    → (n + 1) + length (filter_map h paths) ≡ all
counted_more h path paths n all = by_rest (h path)
  where
    by_rest : (o : Option (List ℕ)) → is_some o ≡ true
        → n + length (cons_option o (filter_map h paths)) ≡ all
        → (n + 1) + length (filter_map h paths) ≡ all
    by_rest None is e = cc
    by_rest (Some rest) is e = omega (arith, e)

pub counted_same : (h : List ℕ → Option (List ℕ)) (path : List ℕ) (paths : List (List ℕ))
    (n all : ℕ)
    → is_some (h path) ≡ false → n + length (filter_map h (path ∷ paths)) ≡ all
    → n + length (filter_map h paths) ≡ all
counted_same h path paths n all = by_rest (h path)
  where
    by_rest : (o : Option (List ℕ)) → is_some o ≡ false
        → n + length (cons_option o (filter_map h paths)) ≡ all
        → n + length (filter_map h paths) ≡ all
    by_rest None is e = e
    by_rest (Some rest) is e = cc

-- a value that is mapped is one as before
pub is_some-mapped : {A B : Type 0} (f : A → B) (o : Option A)
    → is_some (option_map f o) ≡ is_some o
is_some-mapped f None = refl
is_some-mapped f (Some x) = refl
