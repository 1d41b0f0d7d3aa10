-- The lines of names, one more at a time.
use Rattle.std.proofs.Common.{◌≡◌, ◌<◌, length, ℕ, zero, suc, ◌+◌, List, [], ◌∷◌, ◌++◌, take}
use Rattle.std.proofs.Common.{Option, Some, None, sym, ap, subst, ◌∙◌, append_assoc, append-nil}
use Rattle.std.proofs.Common.{arith, unwrap_or}
use Rattle.std.specs.List.{slice_get}
use Rattle.km_names.specs.Lines.{lines_text}

one-more : (i : ℕ) → suc (i + 1) ≡ suc i + 1
one-more i = omega arith

pub lines-more : (names : List (List ℕ)) (i : ℕ) (name : List ℕ) → Some name ≡ slice_get names i
    → lines_text (take (i + 1) names) ≡ lines_text (take i names) ++ (name ++ 10 ∷ [])
lines-more [] i name is = absurd (cc)
lines-more (n ∷ names) zero name is =
    append-nil (n ++ 10 ∷ []) ∙ ap (λ (o : Option (List ℕ)). unwrap_or o n ++ 10 ∷ []) (sym is)
lines-more (n ∷ names) (suc i) name is =
    subst (λ k. lines_text (take k (n ∷ names))
    ≡ (n ++ 10 ∷ []) ++ (lines_text (take i names) ++ (name ++ 10 ∷ []))) (one-more i)
    (ap (λ text. (n ++ 10 ∷ []) ++ text) (lines-more names i name is))
    ∙ sym (append_assoc (n ++ 10 ∷ []) (lines_text (take i names)) (name ++ 10 ∷ []))

pub none-there : (names : List (List ℕ)) (i : ℕ) → i < length names → None ≡ slice_get names i → ⊥
none-there [] i low is = omega (arith, low)
none-there (n ∷ names) zero low is = cc
none-there (n ∷ names) (suc i) low is = none-there names i (omega (arith, low)) is
