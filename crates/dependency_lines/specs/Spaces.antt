-- What follows the first space of a text.
-- It belongs to the code: no public meaning rests on it.
use Rattle.std.specs.Prelude.{◌≡◌, ℕ, List, false, true, ◌==◌, Option, Some, None}
use Rattle.std.specs.List.{list_any, after_first}

-- What follows the first space of a text, if there is one.
abbrev pub IsAfterSpace : List ℕ → Option (List ℕ) → Type 0
IsAfterSpace text None = list_any (λ b. b == 32) text ≡ false
IsAfterSpace text (Some rest) =
    (list_any (λ b. b == 32) text ≡ true) × (rest ≡ after_first (λ b. b == 32) text)
