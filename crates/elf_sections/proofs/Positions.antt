-- The first item of a list that passes a test, by its place.
use Rattle.std.proofs.Common.{◌≡◌, ℕ, ◌<◌, Bool, true, false, List, [], ◌∷◌, length, get_or, Some}
use Rattle.std.proofs.Common.{None, refl, arith}
use Rattle.std.proofs.lemmas.Option.{get_or_from_slice_get, slice_get-get_or, slice_get_within}
use Rattle.std.specs.List.{position, slice_get}
use Rattle.km_names.proofs.Positions.{position-found, position-none}

pub position-at : {X : Type 0} (p : X → Bool) (xs : List X) (i : ℕ) (x : X)
    → slice_get xs i ≡ Some x → ((k : ℕ) (y : X) → k < i → slice_get xs k ≡ Some y → p y ≡ false)
    → p x ≡ true → position p xs ≡ Some i
position-at p xs i x is before here =
    let within = slice_get_within xs i x is in
    position-found p xs i x within
    (λ k less. before k (get_or xs k x) less (slice_get-get_or xs k x (omega arith)))
    (rw (get_or_from_slice_get xs i x x is) here)

pub position-nowhere : {X : Type 0} (p : X → Bool) (xs : List X)
    → ((k : ℕ) (y : X) → k < length xs → slice_get xs k ≡ Some y → p y ≡ false)
    → position p xs ≡ None
position-nowhere p [] before = refl
position-nowhere p (x ∷ xs) before =
    position-none p (x ∷ xs) x
    (λ k less. before k (get_or (x ∷ xs) k x) less (slice_get-get_or (x ∷ xs) k x less))
