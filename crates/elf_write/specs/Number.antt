-- Numbers, zeros and texts as object files have them. gABI 4, "Data Representation".
use Rattle.std.specs.Prelude.{ℕ, List, [], ◌∷◌, ◌++◌, replicate}
use Rattle.std.specs.Int.{w16, w32, w64, to_le_bytes}

-- A number of 2 bytes, the lowest first. gABI 4, "Data Representation", Elf64_Half.
unfoldable pub half : ℕ → List ℕ
half n = to_le_bytes w16 n

-- A number of 4 bytes, the lowest first. gABI 4, "Data Representation", Elf64_Word.
unfoldable pub word : ℕ → List ℕ
word n = to_le_bytes w32 n

-- A number of 8 bytes, the lowest first. gABI 4, "Data Representation", Elf64_Xword.
unfoldable pub xword : ℕ → List ℕ
xword n = to_le_bytes w64 n

-- This many zeros.
unfoldable pub zeros : ℕ → List ℕ
zeros n = replicate n 0

-- A text with its NUL.
abbrev pub with_nul : List ℕ → List ℕ
with_nul text = text ++ 0 ∷ []
