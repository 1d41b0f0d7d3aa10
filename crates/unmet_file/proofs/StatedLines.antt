-- Files whose lines each state something, or are refused: the first refused line, and what the
-- lines state.
use Rattle.std.proofs.Common.{◌≡◌, ℕ, ◌+◌, Bool, true, false, List, [], ◌∷◌, ◌++◌, cond, Option}
use Rattle.std.proofs.Common.{Some, None, option_map, refl, sym, ap, ◌∙◌, append_assoc}
use Rattle.std.proofs.lemmas.Iterator.Adapters.{position_from-zero}
use Rattle.std.specs.List.{cons_option, position, position_from, filter_map}
use Rattle.km_names.specs.Statements.{LinePlace}

-- the place of a line of a file
abbrev pub at_line : List ℕ → ℕ → LinePlace
at_line file number = record { file = file; number = number }

-- the place of the first of some lines that is refused, of which the first line has a number
pub place_by : (List ℕ → Bool) → List ℕ → ℕ → List (List ℕ) → Option LinePlace
place_by bad file number lines = option_map (at_line file) (position_from bad number lines)

counted : (p : List ℕ → Bool) (k : ℕ) (xs : List (List ℕ))
    → position_from p (k + 1) xs ≡ option_map (λ i. i + 1) (position_from p k xs)
counted p k [] = refl
counted p k (x ∷ xs) =
    elim (p x) as
    (λ b. cond b (Some (k + 1)) (position_from p (k + 1 + 1) xs)
    ≡ option_map (λ i. i + 1) (cond b (Some k) (position_from p (k + 1) xs))) [
      | true ↦ refl
      | false ↦ counted p (k + 1) xs
    ]

numbered : (file : List ℕ) (o : Option ℕ)
    → option_map (λ i. at_line file (i + 1)) o
    ≡ option_map (at_line file) (option_map (λ i. i + 1) o)
numbered file None = refl
numbered file (Some i) = refl

-- the place among lines from 1 is that of the first refused line
pub first-place : (bad : List ℕ → Bool) (file : List ℕ) (lines : List (List ℕ))
    → place_by bad file 1 lines ≡ option_map (λ i. at_line file (i + 1)) (position bad lines)
unfolding place_by
first-place bad file lines =
    ap (option_map (at_line file)) (counted bad 0 lines)
    ∙ sym (numbered file (position_from bad 0 lines))
    ∙ ap (option_map (λ i. at_line file (i + 1))) (sym (position_from-zero bad lines))

-- of no lines none is refused
pub no-place : (bad : List ℕ → Bool) (file : List ℕ) (number : ℕ)
    → place_by bad file number [] ≡ None
unfolding place_by
no-place bad file number = refl

-- a line that isn't refused
pub place-later : (bad : List ℕ → Bool) (file : List ℕ) (number : ℕ) (line : List ℕ)
    (lines : List (List ℕ))
    → bad line ≡ false
    → place_by bad file number (line ∷ lines) ≡ place_by bad file (number + 1) lines
unfolding place_by
place-later bad file number line lines good =
    ap (λ b. option_map (at_line file)
    (cond b (Some number) (position_from bad (number + 1) lines))) good

-- one that is refused
pub place-here : (bad : List ℕ → Bool) (file : List ℕ) (number : ℕ) (line : List ℕ)
    (lines : List (List ℕ))
    → bad line ≡ true → place_by bad file number (line ∷ lines) ≡ Some (at_line file number)
unfolding place_by
place-here bad file number line lines is =
    ap (λ b. option_map (at_line file)
    (cond b (Some number) (position_from bad (number + 1) lines))) is

-- what one line more states
pub stated-more : {X : Type 0} (states : List ℕ → Option X) (done : List X) (line : List ℕ)
    (lines : List (List ℕ)) (x : X)
    → Some x ≡ states line
    → (done ++ x ∷ []) ++ filter_map states lines ≡ done ++ filter_map states (line ∷ lines)
stated-more states done line lines x is =
    append_assoc done (x ∷ []) (filter_map states lines)
    ∙ ap (λ o. done ++ cons_option o (filter_map states lines)) is

pub stated-none : {X : Type 0} (states : List ℕ → Option X) (done : List X) (line : List ℕ)
    (lines : List (List ℕ))
    → None ≡ states line
    → done ++ filter_map states lines ≡ done ++ filter_map states (line ∷ lines)
stated-none states done line lines is = ap (λ o. done ++ cons_option o (filter_map states lines)) is
