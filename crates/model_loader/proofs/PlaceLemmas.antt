-- Places: what is at one, what is found among them, and what is left without one.
use Rattle.std.proofs.Common.{◌≡◌, ◌≤◌, ◌<◌, ◌+◌, ◌-◌, ◌∙◌, ◌⊎◌, inl, inr, ℕ, zero, suc, Bool, true}
use Rattle.std.proofs.Common.{false, List, [], ◌∷◌, ◌++◌, Option, Some, None, refl, sym, ap, arith}
use Rattle.std.proofs.Common.{length, cond}
use Rattle.std.specs.Prelude.{find, remove, slice_get, All}
use Rattle.std.specs.List.{range_with_len}
use Rattle.std.specs.Option.{option_map_or}
use Rattle.std.proofs.lemmas.Bool.{cases_Bool}

pub none≢some : {X : Type 0} {x : X} → ◌≡◌ {A = Option X} None (Some x) → ⊥
none≢some is = cc

pub at-or-above : (i k : ℕ) → i ≤ k → (i ≡ k) ⊎ (i + 1 ≤ k)
at-or-above i k le = grind arith

pub below-or-at : (i k : ℕ) → i < k + 1 → (i < k) ⊎ (i ≡ k)
below-or-at i k less = grind arith

pub below-or-above : (i k : ℕ) → (i < k) ⊎ (k ≤ i)
below-or-above i k = grind arith

-- What is at a place.
pub item : {X : Type 0} (xs : List X) (j : ℕ) → j < length xs → (x : X) × (slice_get xs j ≡ Some x)
item [] j less = absurd (omega (arith, less))
item (x ∷ xs) zero less = (x, refl)
item (x ∷ xs) (suc j) less = item xs j (omega (arith, less))

pub in-place : {X : Type 0} (xs : List X) (k : ℕ) (x : X) → slice_get xs k ≡ Some x → k < length xs
in-place [] k x at = absurd (none≢some at)
in-place (y ∷ ys) zero x at = omega arith
in-place (y ∷ ys) (suc k) x at = omega (arith, in-place ys k x at)

pub past : {X : Type 0} (xs : List X) (k : ℕ) → length xs ≤ k → slice_get xs k ≡ None
past [] k le = refl
past (x ∷ xs) zero le = absurd (omega (arith, le))
past (x ∷ xs) (suc k) le = past xs k (omega (arith, le))

-- Places after one is taken out.
pub below-cut : {X : Type 0} (xs : List X) (k u : ℕ) → u < k
    → slice_get (remove xs k) u ≡ slice_get xs u
below-cut [] zero u less = absurd (omega (arith, less))
below-cut [] (suc k) u less = refl
below-cut (x ∷ xs) zero u less = absurd (omega (arith, less))
below-cut (x ∷ xs) (suc k) zero less = refl
below-cut (x ∷ xs) (suc k) (suc u) less = below-cut xs k u (omega (arith, less))

pub above-cut : {X : Type 0} (xs : List X) (k u : ℕ) → k ≤ u
    → slice_get (remove xs k) u ≡ slice_get xs (suc u)
above-cut [] zero u le = refl
above-cut [] (suc k) u le = refl
above-cut (x ∷ xs) zero u le = refl
above-cut (x ∷ xs) (suc k) zero le = absurd (omega (arith, le))
above-cut (x ∷ xs) (suc k) (suc u) le = above-cut xs k u (omega (arith, le))

-- Places after one is added.
pub length-pushed : {X : Type 0} (xs : List X) (x : X) → length (xs ++ x ∷ []) ≡ length xs + 1
length-pushed [] x = refl
length-pushed (y ∷ ys) x = omega (arith, length-pushed ys x)

pub old-stays : {X : Type 0} (xs : List X) (x : X) (k : ℕ) → k < length xs
    → slice_get (xs ++ x ∷ []) k ≡ slice_get xs k
old-stays [] x k less = absurd (omega (arith, less))
old-stays (y ∷ ys) x zero less = refl
old-stays (y ∷ ys) x (suc k) less = old-stays ys x k (omega (arith, less))

pub new-last : {X : Type 0} (xs : List X) (x : X) → slice_get (xs ++ x ∷ []) (length xs) ≡ Some x
new-last [] x = refl
new-last (y ∷ ys) x = new-last ys x

pub remove-last : {X : Type 0} (xs : List X) (x : X) → remove (xs ++ x ∷ []) (length xs) ≡ xs
remove-last [] x = refl
remove-last (y ∷ ys) x = ap (λ l. y ∷ l) (remove-last ys x)

pub all-push : (n : ℕ) (ks : List ℕ) (k : ℕ) → All (λ (j : ℕ). j < n) ks → k < n
    → All (λ (j : ℕ). j < n) (ks ++ k ∷ [])
all-push n [] k all here zero d less = here
all-push n [] k all here (suc i) d less = absurd (omega (arith, less))
all-push n (x ∷ ks) k all here zero d less = all zero d (omega arith)
all-push n (x ∷ ks) k all here (suc i) d less =
    all-push n ks k (λ j e inside. all (suc j) e (omega (arith, inside))) here i d
    (omega (arith, less))

-- What is found among places, one more at a time.
pub range-more : (i n : ℕ) → i < n
    → range_with_len i (n - i) ≡ i ∷ range_with_len (i + 1) (n - (i + 1))
range-more i n less =
    let more : n - i ≡ suc (n - (i + 1)) = omega (arith, less) in
    ap (range_with_len i) more

pub find-later : (p : ℕ → Bool) (i n : ℕ) → i < n → p i ≡ false
    → find p (range_with_len 0 n) ≡ find p (range_with_len i (n - i))
    → find p (range_with_len 0 n) ≡ find p (range_with_len (i + 1) (n - (i + 1)))
find-later p i n less other is =
    is ∙ ap (find p) (range-more i n less)
    ∙ ap (λ b. cond b (Some i) (find p (range_with_len (i + 1) (n - (i + 1))))) other

pub found-within : (p : ℕ → Bool) (i n j : ℕ) → find p (range_with_len i n) ≡ Some j
    → (p j ≡ true) × (j < i + n)
found-within p i zero j is = absurd (none≢some is)
found-within p i (suc n) j is =
    elim (cases_Bool (p i)) [
      | inl here ↦
          let same : i ≡ j
          = ap (λ o. option_map_or (λ k. k) o i)
          (sym (ap (λ b. cond b (Some i) (find p (range_with_len (i + 1) n))) here) ∙ is) in
          (ap p (sym same) ∙ here, omega (arith, same))
      | inr other ↦
          let later
          = found-within p (i + 1) n j
          (sym (ap (λ b. cond b (Some i) (find p (range_with_len (i + 1) n))) other) ∙ is)
          in
          (later.0, omega (arith, later.1))
    ]

none-here : (p : ℕ → Bool) (i n : ℕ) → find p (range_with_len i (suc n)) ≡ None → p i ≡ false
none-here p i n none =
    elim (cases_Bool (p i)) [
      | inl here ↦ absurd
          (none≢some
          (sym none ∙ ap (λ b. cond b (Some i) (find p (range_with_len (i + 1) n))) here))
      | inr other ↦ other
    ]

pub none-within : (p : ℕ → Bool) (i n k : ℕ) → find p (range_with_len i n) ≡ None → i ≤ k
    → k < i + n → p k ≡ false
none-within p i zero k none low high = absurd (omega (arith, low, high))
none-within p i (suc n) k none low high =
    let other = none-here p i n none in
    elim (at-or-above i k low) [
      | inl same ↦ ap p (sym same) ∙ other
      | inr above ↦ none-within p (i + 1) n k
          (sym (ap (λ b. cond b (Some i) (find p (range_with_len (i + 1) n))) other) ∙ none) above
          (omega (arith, high))
    ]
