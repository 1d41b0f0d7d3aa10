-- The first place of a list that passes a test.
use Rattle.std.proofs.Common.{◌≡◌, ℕ, ◌<◌, Bool, true, false, List, length, get_or, Option, Some}
use Rattle.std.proofs.Common.{None, refl, sym, arith}
use Rattle.std.proofs.lemmas.Bool.{false_from_ne_true, lt-ltb, le-ltb}
use Rattle.std.proofs.lemmas.List.Sums.{position_or_len_is}
use Rattle.std.specs.List.{position}
use Rattle.memchr.specs.Find.{IsFirstByte}

-- the first place that passes
pub position-found : {X : Type 0} (p : X → Bool) (xs : List X) (i : ℕ) (d : X) → i < length xs
    → ((k : ℕ) → k < i → p (get_or xs k d) ≡ false) → p (get_or xs i d) ≡ true
    → position p xs ≡ Some i
position-found p xs i d within before here =
    let at = position_or_len_is p xs i d (omega arith) before (λ _. here) in
    rw (at, lt-ltb i (length xs) within) refl

-- no place passes
pub position-none : {X : Type 0} (p : X → Bool) (xs : List X) (d : X)
    → ((k : ℕ) → k < length xs → p (get_or xs k d) ≡ false) → position p xs ≡ None
position-none p xs d before =
    let at
    = position_or_len_is p xs (length xs) d (omega arith) before (λ less. absurd (omega arith))
    in
    rw (at, le-ltb (length xs) (length xs) (omega arith)) refl

-- the first byte that a search found
pub first_byte-position : (p : ℕ → Bool) (bytes : List ℕ) (r : Option ℕ) → IsFirstByte p bytes r
    → r ≡ position p bytes
first_byte-position p bytes None nowhere =
    sym (position-none p bytes 0
    (λ k less. false_from_ne_true (p (get_or bytes k 0)) (nowhere k (omega arith) less)))
first_byte-position p bytes (Some i) found =
    sym (position-found p bytes i 0 found.0.high
    (λ k less. false_from_ne_true (p (get_or bytes k 0))
    (found.0.before k (omega arith) less)) found.1)
