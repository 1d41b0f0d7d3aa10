-- Searches and rising lists.
use Rattle.std.proofs.Common.{◌≡◌, ℕ, zero, suc, ◌<◌, Bool, true, false, cond, eqb, List, [], ◌∷◌}
use Rattle.std.proofs.Common.{length, map, get_or, Option, Some, None, sym, refl, ap, ◌∙◌, inl, inr}
use Rattle.std.proofs.Common.{arith}
use Rattle.std.specs.Prelude.{◌||◌, ◌⊎◌, ◌&&◌}
use Rattle.std.specs.List.{list_all, find}
use Rattle.std.specs.Option.{option_map, option_to_list}
use Rattle.std.proofs.lemmas.Bool.{true≢false, or_cases, or_left, or_right, eqb-true, eq-eqb}
use Rattle.std.proofs.lemmas.Bool.{false_from_ne_true, ne_eqb, cases_eq}
use Rattle.relation_order.specs.Sets.{has}
use Rattle.relation_order.proofs.Lists.{has-at}
use Rattle.relation_order.proofs.Placing.{Rising}
use Rattle.std.proofs.lemmas.List.{get_or_default}
use Rattle.plan_order.specs.Finding.{Rises}

pub find-same : (p q : ℕ → Bool) (xs : List ℕ) → ((x : ℕ) → has xs x ≡ true → p x ≡ q x)
    → find p xs ≡ find q xs
find-same p q [] same = refl
find-same p q (x ∷ xs) same =
    ap (λ b. cond b (Some x) (find p xs)) (same x (or_left _ _ (eq-eqb x x refl)))
    ∙ ap (λ o. cond (q x) (Some x) o) (find-same p q xs (λ y h. same y (or_right _ _ h)))

pub find-map : (p : ℕ → Bool) (f : ℕ → ℕ) (xs : List ℕ)
    → find p (map f xs) ≡ option_map f (find (λ x. p (f x)) xs)
find-map p f [] = refl
find-map p f (x ∷ xs) = go (p (f x)) (find-map p f xs)
  where
    go : (b : Bool) → find p (map f xs) ≡ option_map f (find (λ x. p (f x)) xs)
        → cond b (Some (f x)) (find p (map f xs))
        ≡ option_map f (cond b (Some x) (find (λ x. p (f x)) xs))
    go true e = refl
    go false e = e

pub all-same : (p q : ℕ → Bool) (xs : List ℕ) → ((x : ℕ) → has xs x ≡ true → p x ≡ q x)
    → list_all p xs ≡ list_all q xs
all-same p q [] same = refl
all-same p q (x ∷ xs) same =
    ap (λ b. b && list_all p xs) (same x (or_left _ _ (eq-eqb x x refl)))
    ∙ ap (λ b. q x && b) (all-same p q xs (λ y h. same y (or_right _ _ h)))

pub all-map : (p : ℕ → Bool) (f : ℕ → ℕ) (xs : List ℕ)
    → list_all p (map f xs) ≡ list_all (λ x. p (f x)) xs
all-map p f [] = refl
all-map p f (x ∷ xs) = ap (λ b. p (f x) && b) (all-map p f xs)

pub map-option : (f : ℕ → ℕ) (o : Option ℕ)
    → option_to_list (option_map f o) ≡ map f (option_to_list o)
map-option f None = refl
map-option f (Some x) = refl

-- ---- rising lists

pub rises-from : (xs : List ℕ) → Rising xs → Rises xs
rises-from [] up = tt
rises-from (x ∷ xs) up = (up.0, rises-from xs up.1)

-- what stands later is greater
pub rises-at : (xs : List ℕ) → Rises xs → (i j : ℕ) → i < j → j < length xs
    → get_or xs i 0 < get_or xs j 0
rises-at [] up i j l k = absurd (omega arith)
rises-at (x ∷ xs) up i zero l k = absurd (omega arith)
rises-at (x ∷ xs) up zero (suc j) l k =
    up.0 (get_or xs j 0)
    (has-at xs j (get_or xs j 0) (omega arith)
    (get_or_default xs j 0 (get_or xs j 0) (omega arith)))
rises-at (x ∷ xs) up (suc i) (suc j) l k = rises-at xs up.1 i j (omega arith) (omega arith)

pub rises-once : (xs : List ℕ) → Rises xs → (i j : ℕ) → i < length xs → j < length xs
    → get_or xs i 0 ≡ get_or xs j 0 → i ≡ j
rises-once xs up i j l k e =
    elim (cases_eq i j) [
      | inl s ↦ s
      | inr ne ↦ absurd (apart (split i j ne))
    ]
  where
    split : (i j : ℕ) → (i ≡ j → ⊥) → (i < j) ⊎ (j < i)
    split i j ne = grind (arith, Rattle.std.proofs.lemmas.Bool.Decides.nat_tests)

    apart : (i < j) ⊎ (j < i) → ⊥
    apart (inl m) = let w = rises-at xs up i j m k in omega (arith, w, e)
    apart (inr m) = let w = rises-at xs up j i m l in omega (arith, w, e)

below-head : (x : ℕ) (xs : List ℕ) → Rises (x ∷ xs) → has xs x ≡ false
below-head x xs up = false_from_ne_true _ (λ h. let l = up.0 x h in omega arith)

-- two rising lists with the same items
pub rises-same : (xs ys : List ℕ) → Rises xs → Rises ys → ((y : ℕ) → has xs y ≡ has ys y) → xs ≡ ys
rises-same [] [] up down same = refl
rises-same [] (y ∷ ys) up down same =
    absurd (true≢false (sym (same y ∙ or_left _ _ (eq-eqb y y refl))))
rises-same (x ∷ xs) [] up down same =
    absurd (true≢false (sym (or_left _ _ (eq-eqb x x refl)) ∙ same x))
rises-same (x ∷ xs) (y ∷ ys) up down same =
    let e : x ≡ y
    = heads (or_cases (eqb x y) (has ys x) (sym (same x) ∙ or_left _ _ (eq-eqb x x refl)))
    (or_cases (eqb y x) (has xs y) (same y ∙ or_left _ _ (eq-eqb y y refl))) in
    let rest : xs ≡ ys = rises-same xs ys up.1 down.1 (λ z. tails e z (cases_eq z x)) in
    λ i. e i ∷ rest i
  where
    heads : (eqb x y ≡ true) ⊎ (has ys x ≡ true) → (eqb y x ≡ true) ⊎ (has xs y ≡ true) → x ≡ y
    heads (inl s) w = eqb-true x y s
    heads (inr m) (inl s) = sym (eqb-true y x s)
    heads (inr m) (inr n) = let a = down.0 x m in let b = up.0 y n in absurd (omega arith)

    tails : x ≡ y → (z : ℕ) → (z ≡ x) ⊎ (z ≡ x → ⊥) → has xs z ≡ has ys z
    tails e z (inl s)
        = ap (has xs) s ∙ below-head x xs up ∙ sym (below-head y ys down)
        ∙ ap (has ys) (sym e ∙ sym s)
    tails e z (inr ne) =
        ap (λ b. b || has xs z) (sym (ne_eqb z x ne)) ∙ same z
        ∙ ap (λ b. b || has ys z) (ne_eqb z y (λ s. ne (s ∙ sym e)))
