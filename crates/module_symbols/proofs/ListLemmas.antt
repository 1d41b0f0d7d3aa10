-- Lists, an item more at a time.
use Rattle.std.proofs.Common.{◌≡◌, ℕ, suc, ◌+◌, ◌<◌, Bool, true, false, List, [], ◌∷◌, ◌++◌, cond}
use Rattle.std.proofs.Common.{length, take, get_or, map, Option, Some, None, sym, ap, ◌∙◌}
use Rattle.std.proofs.Common.{add-zero, append-nil, arith}
use Rattle.std.proofs.lemmas.List.{length-take, map-append, take_more}
use Rattle.std.proofs.lemmas.List.Elements.{filter-append, filter_map-append}
use Rattle.std.proofs.lemmas.Option.{get_or_from_slice_get, slice_get_within}
use Rattle.std.specs.List.{cons_option, enumerate_from, filter, filter_map, slice_get}

-- the front with the item at i is one item longer
pub take-item : {X : Type 0} (xs : List X) (i : ℕ) (x : X) → slice_get xs i ≡ Some x
    → take (i + 1) xs ≡ take i xs ++ x ∷ []
take-item xs i x is =
    let within : i < length xs = slice_get_within xs i x is in
    let here : get_or xs i x ≡ x = get_or_from_slice_get xs i x x is in
    take_more xs i x within ∙ ap (λ y. take i xs ++ y ∷ []) here

-- what a function makes of the front with the item at i
pub map-item : {X Y : Type 0} (f : X → Y) (xs : List X) (i : ℕ) (x : X) → slice_get xs i ≡ Some x
    → map f (take (i + 1) xs) ≡ map f (take i xs) ++ f x ∷ []
map-item f xs i x is = ap (map f) (take-item xs i x is) ∙ map-append f (take i xs) (x ∷ [])

-- the item at i gives y
pub filter_map-given : {X Y Z : Type 0} (f : X → Option Y) (g : Y → Z) (xs : List X) (i : ℕ) (x : X)
    (y : Y)
    → slice_get xs i ≡ Some x → Some y ≡ f x
    → map g (filter_map f (take (i + 1) xs)) ≡ map g (filter_map f (take i xs)) ++ g y ∷ []
filter_map-given f g xs i x y is gives =
    ap (λ ys. map g (filter_map f ys)) (take-item xs i x is)
    ∙ ap (map g) (filter_map-append f (take i xs) (x ∷ []))
    ∙ ap (λ o. map g (filter_map f (take i xs) ++ cons_option o [])) (sym gives)
    ∙ map-append g (filter_map f (take i xs)) (y ∷ [])

-- the item at i gives nothing
pub filter_map-silent : {X Y Z : Type 0} (f : X → Option Y) (g : Y → Z) (xs : List X) (i : ℕ)
    (x : X)
    → slice_get xs i ≡ Some x → None ≡ f x
    → map g (filter_map f (take (i + 1) xs)) ≡ map g (filter_map f (take i xs))
filter_map-silent f g xs i x is gives =
    ap (λ ys. map g (filter_map f ys)) (take-item xs i x is)
    ∙ ap (map g) (filter_map-append f (take i xs) (x ∷ []))
    ∙ ap (λ o. map g (filter_map f (take i xs) ++ cons_option o [])) (sym gives)
    ∙ ap (map g) (append-nil (filter_map f (take i xs)))

-- the numbered list with one more item
pub enumerate_from-push : {X : Type 0} (n : ℕ) (xs : List X) (x : X)
    → enumerate_from n (xs ++ x ∷ []) ≡ enumerate_from n xs ++ (n + length xs, x) ∷ []
enumerate_from-push n [] x = ap (λ k. (k, x) ∷ []) (sym (add-zero n))
enumerate_from-push n (y ∷ ys) x =
    let same : n + 1 + length ys ≡ n + suc (length ys) = omega arith in
    ap (λ l. (n, y) ∷ l)
    (enumerate_from-push (n + 1) ys x ∙ ap (λ k. enumerate_from (n + 1) ys ++ (k, x) ∷ []) same)

enumerate_from-take : {X : Type 0} (xs : List X) (i : ℕ) (x : X) → slice_get xs i ≡ Some x
    → enumerate_from 0 (take (i + 1) xs) ≡ enumerate_from 0 (take i xs) ++ (i, x) ∷ []
enumerate_from-take xs i x is =
    let within : i < length xs = slice_get_within xs i x is in
    let long : 0 + length (take i xs) ≡ i = omega (arith, length-take i xs) in
    ap (enumerate_from 0) (take-item xs i x is)
    ∙ enumerate_from-push 0 (take i xs) x
    ∙ ap (λ k. enumerate_from 0 (take i xs) ++ (k, x) ∷ []) long

-- the numbered item at i passes
pub numbered-passed : {X Z : Type 0} (p : ℕ × X → Bool) (g : ℕ × X → Z) (xs : List X) (i : ℕ)
    (x : X)
    → slice_get xs i ≡ Some x → p (i, x) ≡ true
    → map g (filter p (enumerate_from 0 (take (i + 1) xs)))
    ≡ map g (filter p (enumerate_from 0 (take i xs))) ++ g (i, x) ∷ []
numbered-passed p g xs i x is passes =
    ap (λ l. map g (filter p l)) (enumerate_from-take xs i x is)
    ∙ ap (map g) (filter-append p (enumerate_from 0 (take i xs)) ((i, x) ∷ []))
    ∙ ap (λ b. map g (filter p (enumerate_from 0 (take i xs)) ++ cond b ((i, x) ∷ []) [])) passes
    ∙ map-append g (filter p (enumerate_from 0 (take i xs))) ((i, x) ∷ [])

-- it doesn't pass
pub numbered-failed : {X Z : Type 0} (p : ℕ × X → Bool) (g : ℕ × X → Z) (xs : List X) (i : ℕ)
    (x : X)
    → slice_get xs i ≡ Some x → p (i, x) ≡ false
    → map g (filter p (enumerate_from 0 (take (i + 1) xs)))
    ≡ map g (filter p (enumerate_from 0 (take i xs)))
numbered-failed p g xs i x is fails =
    ap (λ l. map g (filter p l)) (enumerate_from-take xs i x is)
    ∙ ap (map g) (filter-append p (enumerate_from 0 (take i xs)) ((i, x) ∷ []))
    ∙ ap (λ b. map g (filter p (enumerate_from 0 (take i xs)) ++ cond b ((i, x) ∷ []) [])) fails
    ∙ ap (map g) (append-nil (filter p (enumerate_from 0 (take i xs))))
