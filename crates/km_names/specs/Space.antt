-- White space in the lines of configuration files: space, tab and carriage return. modprobe.d(5),
-- depmod.d(5).
use Rattle.std.specs.Prelude.{ℕ, ◌-◌, List, [], ◌∷◌, Bool, ◌||◌, ◌==◌, length, take, drop}
use Rattle.std.specs.List.{before_first, after_first, prefix_len, suffix_len, slice_split}

-- Whether a byte is white space.
abbrev pub is_space : ℕ → Bool
is_space b = b == 32 || b == 9 || b == 13

-- The text without the white space at its start.
abbrev pub trimmed_start : List ℕ → List ℕ
trimmed_start text = drop (prefix_len is_space text) text

-- The text without the white space at its end.
abbrev pub trimmed_end : List ℕ → List ℕ
trimmed_end text = take (length text - suffix_len is_space text) text

-- The text without the white space at either end.
unfoldable pub trimmed : List ℕ → List ℕ
trimmed text = trimmed_end (trimmed_start text)

-- The word that a text begins with: the bytes before its first white space.
unfoldable pub first_word : List ℕ → List ℕ
first_word text = before_first is_space text

-- The rest of a text: what follows its first word, without white space at either end.
unfoldable pub rest_after_word : List ℕ → List ℕ
rest_after_word text = trimmed (drop (length (first_word text)) text)

-- The bytes before the first space of a text, and the bytes after it.
abbrev pub before_space : List ℕ → List ℕ
before_space text = before_first (λ b. b == 32) text

abbrev pub past_space : List ℕ → List ℕ
past_space text = after_first (λ b. b == 32) text

-- The pieces that aren't empty.
abbrev pub nonempty : List (List ℕ) → List (List ℕ)
nonempty [] = []
nonempty ([] ∷ pieces) = nonempty pieces
nonempty ((b ∷ bs) ∷ pieces) = (b ∷ bs) ∷ nonempty pieces

-- The words of a text: its pieces between white space that aren't empty.
unfoldable pub words : List ℕ → List (List ℕ)
words text = nonempty (slice_split is_space text)
