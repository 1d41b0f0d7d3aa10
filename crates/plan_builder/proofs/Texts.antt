-- Texts with spaces between, as the lines of modules.unmet have them.
use Rattle.std.proofs.Common.{◌≡◌, ℕ, List, [], ◌∷◌, ◌++◌, ap, append-nil}
use Rattle.km_names.specs.Texts.{spaced}
use Rattle.unmet_file.specs.Line.{two_text, three_text}

pub spaced-three : (word a b : List ℕ) → spaced (word ∷ a ∷ b ∷ []) ≡ two_text word (two_text a b)
spaced-three word a b = ap (λ t. word ++ 32 ∷ (a ++ 32 ∷ t)) (append-nil b)

pub spaced-four : (word a b c : List ℕ)
    → spaced (word ∷ a ∷ b ∷ c ∷ []) ≡ two_text word (three_text a b c)
spaced-four word a b c = ap (λ t. word ++ 32 ∷ (a ++ 32 ∷ (b ++ 32 ∷ t))) (append-nil c)
