-- A text that is being written: how long it is, and its bytes if they are kept.
use Rattle.std.specs.Prelude.{◌+◌, min, ℕ, List, [], ◌∷◌, ◌++◌, length, Some, None, option_map}
use Rattle.stated_texts.specs.declared.text.Text.{Text}

-- A text that is only measured, and one whose bytes are kept.
abbrev pub measured : Text
measured = record { length = 0; kept = None }

abbrev pub kept : Text
kept = record { length = 0; kept = Some [] }

-- The text with more at its end. A length past 64 bits is given as the greatest of 64.
unfoldable pub with_piece : Text → List ℕ → Text
with_piece t [] = t
with_piece t (b ∷ bytes) = record {
  length = min (t.length + length (b ∷ bytes)) 18446744073709551615;
  kept = option_map (λ before. before ++ b ∷ bytes) t.kept;
}
