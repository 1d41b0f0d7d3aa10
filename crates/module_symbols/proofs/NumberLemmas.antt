-- Tests of the numbers below a bound.
use Rattle.std.proofs.Common.{◌≡◌, ℕ, zero, suc, ◌+◌, ◌<◌, Bool, true, false, ◌||◌, refl, add-zero}
use Rattle.std.proofs.Common.{zero-add, arith}
use Rattle.std.specs.List.{list_any, range_with_len}

pub or-true : (b : Bool) → (b || true) ≡ true
or-true true = refl
or-true false = refl

-- one of n numbers from a on passes
some_from : (p : ℕ → Bool) (a n k : ℕ) → k < n → p (a + k) ≡ true
    → list_any p (range_with_len a n) ≡ true
some_from p a zero k less passes = absurd (omega arith)
some_from p a (suc n) zero less passes =
    let here : p a ≡ true = rw (add-zero a) at passes in rw here refl
some_from p a (suc n) (suc k) less passes =
    let same : a + suc k ≡ a + 1 + k = omega arith in
    let later : list_any p (range_with_len (a + 1) n) ≡ true
    = some_from p (a + 1) n k (omega arith) (rw same at passes) in
    rw later (or-true (p a))

-- none of n numbers from a on passes
none_from : (p : ℕ → Bool) (a n : ℕ) → ((k : ℕ) → k < n → p (a + k) ≡ false)
    → list_any p (range_with_len a n) ≡ false
none_from p a zero fails = refl
none_from p a (suc n) fails =
    let here : p a ≡ false = rw (add-zero a) at (fails 0 (omega arith)) in
    rw here
    (none_from p (a + 1) n
    (λ k less. let same : a + suc k ≡ a + 1 + k
    = omega arith in rw same at (fails (suc k) (omega arith))))

-- one of the numbers below n passes
pub some_number : (p : ℕ → Bool) (n k : ℕ) → k < n → p k ≡ true
    → list_any p (range_with_len 0 n) ≡ true
some_number p n k less passes = some_from p 0 n k less (rw (zero-add k) passes)

-- none of them passes
pub no_number : (p : ℕ → Bool) (n : ℕ) → ((k : ℕ) → k < n → p k ≡ false)
    → list_any p (range_with_len 0 n) ≡ false
no_number p n fails = none_from p 0 n (λ k less. rw (zero-add k) (fails k less))
