-- Wildcard patterns, as fnmatch(3) and glob(7) describe a match, with `*`, `?` and sets in
-- brackets. A byte is itself if no rule below names it: there is no escape, and no byte is special
-- in a text.
use Rattle.std.specs.Prelude.{◌≡◌, ◌≢◌, ◌≤◌, ◌==◌, ◌⊎◌, ℕ, List, [], ◌∷◌, ◌++◌, Contains, MatchBool}

-- `*`
abbrev pub star : ℕ
star = 42

-- `?`
abbrev pub question : ℕ
question = 63

-- `[`, which opens a set.
abbrev pub bracket : ℕ
bracket = 91

-- `]`, which closes a set.
abbrev pub closing : ℕ
closing = 93

-- `!`, which negates a set if it is first.
abbrev pub bang : ℕ
bang = 33

-- `-`, which is between the ends of a range.
abbrev pub dash : ℕ
dash = 45

-- The items of a set list the byte. Read from the left, a byte, a `-` and one more byte are a range
-- with both of its ends, which is empty if the second is less. Any other byte, also `-`, is itself.
abbrev pub Lists : List ℕ → ℕ → Type 0
Lists (low ∷ middle ∷ high ∷ items) byte =
    MatchBool
    (middle == dash)
    (((low ≤ byte) × (byte ≤ high)) ⊎ Lists items byte)
    ((byte ≡ low) ⊎ Lists (middle ∷ high ∷ items) byte)
Lists (only ∷ items) byte = (byte ≡ only) ⊎ Lists items byte
Lists [] byte = ⊥

-- The set between two brackets has the byte. After a first `!` it has each byte that the items
-- don't list.
abbrev pub Has : List ℕ → ℕ → Type 0
Has [] byte = ⊥
Has (first ∷ items) byte =
    MatchBool (first == bang) (¬ Lists items byte) (Lists (first ∷ items) byte)

-- The text matches the pattern, by the first element of the pattern. There is no rule for a `[`
-- without a `]` after it: a pattern with one matches nothing.
pub data Matches : List ℕ → List ℕ → Type 0 where
  -- The empty pattern matches the empty text.
  empty : Matches [] []
  -- `*` matches any run of bytes, also the empty one.
  run : (skipped : List ℕ) {pattern text : List ℕ} → Matches pattern text
      → Matches (star ∷ pattern) (skipped ++ text)
  -- `?` matches any one byte.
  any : (byte : ℕ) {pattern text : List ℕ} → Matches pattern text
      → Matches (question ∷ pattern) (byte ∷ text)
  -- `[`, up to the next `]`, matches one byte of the set.
  set : (inside : List ℕ) (byte : ℕ) {pattern text : List ℕ} → ¬ Contains inside closing
      → Has inside byte → Matches pattern text
      → Matches (bracket ∷ inside ++ closing ∷ pattern) (byte ∷ text)
  -- Any other byte matches itself.
  itself : (byte : ℕ) {pattern text : List ℕ} → byte ≢ star → byte ≢ question → byte ≢ bracket
      → Matches pattern text → Matches (byte ∷ pattern) (byte ∷ text)
