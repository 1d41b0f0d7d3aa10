-- The first item that passes a test.
use Rattle.std.proofs.Common.{◌≡◌, ℕ, ◌+◌, ◌<◌, Bool, List, [], ◌∷◌, cond, length, drop, get_or}
use Rattle.std.proofs.Common.{Some, refl, add-one, drop-cons}
use Rattle.std.specs.List.{find}

-- the item at i is the first from there on that passes, or that one is after it
pub find-item : {X : Type 0} (p : X → Bool) (xs : List X) (i : ℕ) (x : X) → i < length xs
    → x ≡ get_or xs i x → find p (drop i xs) ≡ cond (p x) (Some x) (find p (drop (i + 1) xs))
find-item p xs i x within is = rw (drop-cons xs i x, ← is, add-one) refl

-- tests that agree find the same
pub find-same : {X : Type 0} (p q : X → Bool) (xs : List X) → ((x : X) → p x ≡ q x)
    → find p xs ≡ find q xs
find-same p q [] same = refl
find-same p q (x ∷ xs) same = rw (same x, find-same p q xs same) refl
