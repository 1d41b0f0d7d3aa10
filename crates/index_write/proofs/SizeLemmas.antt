-- Sums that stop at the greatest number of 64 bits, and how many bytes nodes take.
use Rattle.std.proofs.Common.{◌≡◌, refl, sym, ap, ◌∙◌, ℕ, zero, suc, ◌+◌, ◌-◌, ◌^◌, ◌<◌, ◌≤◌, min}
use Rattle.std.proofs.Common.{List, [], ◌∷◌, length, drop, map, get_or, sum_by, arith}
use Rattle.std.proofs.lemmas.List.Sums.{sum_by-append}

-- the total so far, with the sizes that are left, is the whole, up to the greatest number
pub record SizeSoFar {A : Type 0} (size : A → ℕ) (total : ℕ) (left : List A) (start : ℕ)
    (all : List A) : Type 0 where
  pub fits : total ≤ 2 ^ 64 - 1
  pub whole : min (total + sum_by size left) (2 ^ 64 - 1)
      ≡ min (start + sum_by size all) (2 ^ 64 - 1)

-- the item at a place of a list that is seen by f
pub drop-item : {A B : Type 0} (f : A → B) (xs : List A) (n : ℕ) (x : A) → n < length xs
    → x ≡ get_or xs n x → drop n (map f xs) ≡ f x ∷ drop (n + 1) (map f xs)
drop-item f [] n x h is = absurd (omega arith)
drop-item f (y ∷ xs) zero x h is = λ i. f (sym is i) ∷ map f xs
drop-item f (y ∷ xs) (suc n) x h is =
    let one : suc n + 1 ≡ suc (n + 1) = omega arith in
    drop-item f xs n x (omega arith) is ∙ ap (λ k. f x ∷ drop k (map f (y ∷ xs))) (sym one)

sum_by-cons : {A : Type 0} (f : A → ℕ) (x : A) (xs : List A) → sum_by f (x ∷ xs) ≡ f x + sum_by f xs
sum_by-cons f x xs = sum_by-append f (x ∷ []) xs ∙ omega arith

pub size_start : {A : Type 0} (size : A → ℕ) (start : ℕ) (all : List A) → start ≤ 2 ^ 64 - 1
    → SizeSoFar size start all start all
size_start size start all h = record { fits = h; whole = refl }

step : (t s r l n w : ℕ) → l ≡ s + r → n ≡ min (t + s) (2 ^ 64 - 1) → min (t + l) (2 ^ 64 - 1) ≡ w
    → min (n + r) (2 ^ 64 - 1) ≡ w
step t s r l n w a b c = omega (arith, a, b, c)

pub size_next : {A : Type 0} (size : A → ℕ) (total next start : ℕ) (x : A) (left rest all : List A)
    → left ≡ x ∷ rest → next ≡ min (total + size x) (2 ^ 64 - 1)
    → SizeSoFar size total left start all → SizeSoFar size next rest start all
size_next size total next start x left rest all e n h =
    let sums = ap (sum_by size) e ∙ sum_by-cons size x rest in
    record {
      fits = omega (arith, n);
      whole = step total (size x) (sum_by size rest) (sum_by size left) next _ sums n h.whole;
    }

pub size_end : {A : Type 0} (size : A → ℕ) (total start : ℕ) (left all : List A) → left ≡ []
    → SizeSoFar size total left start all → total ≡ min (start + sum_by size all) (2 ^ 64 - 1)
size_end size total start left all e h =
    let sums = ap (sum_by size) e in
    omega (arith, sums, h.fits, h.whole)

-- the same, where the place past the end has a default
pub drop-at : {A B : Type 0} (f : A → B) (xs : List A) (n : ℕ) (d : A) → n < length xs
    → drop n (map f xs) ≡ f (get_or xs n d) ∷ drop (n + 1) (map f xs)
drop-at f [] n d h = absurd (omega arith)
drop-at f (y ∷ xs) zero d h = refl
drop-at f (y ∷ xs) (suc n) d h =
    let one : suc n + 1 ≡ suc (n + 1) = omega arith in
    drop-at f xs n d (omega arith) ∙ ap (λ k. f (get_or xs n d) ∷ drop k (map f (y ∷ xs))) (sym one)

-- nothing is left past the end
pub past_end : {A B : Type 0} (f : A → B) (xs : List A) (n : ℕ) → length xs ≤ n
    → drop n (map f xs) ≡ []
past_end f [] zero h = refl
past_end f [] (suc n) h = refl
past_end f (x ∷ xs) zero h = absurd (omega arith)
past_end f (x ∷ xs) (suc n) h = past_end f xs n (omega arith)
