-- The parts of a pattern, as the code reads them. Each part takes a run of bytes or one byte.
-- The contract of `Progress` in `glob_match` cites it; no lookup does.
use Rattle.std.specs.Prelude.{ℕ, ◌==◌, ◌&&◌, ◌||◌, not, nat_le, Bool, true, false, List, [], ◌∷◌}
use Rattle.std.specs.Prelude.{◌++◌, length, Option, Some, None, if◌then◌else◌}
use Rattle.std.specs.Option.{option_map}
use Rattle.glob_pattern.specs.Pattern.{star, question, bracket, closing, bang, dash}

-- Whether the items of a set list the byte.
abbrev pub is_listed : List ℕ → ℕ → Bool
is_listed (low ∷ middle ∷ high ∷ items) byte =
    if middle == dash then (nat_le low byte && nat_le byte high) || is_listed items byte
    else byte == low || is_listed (middle ∷ high ∷ items) byte
is_listed (only ∷ items) byte = byte == only || is_listed items byte
is_listed [] byte = false

-- Whether the set between two brackets has the byte.
abbrev pub is_in_set : List ℕ → ℕ → Bool
is_in_set [] byte = false
is_in_set (first ∷ items) byte =
    if first == bang then not (is_listed items byte) else is_listed (first ∷ items) byte

-- A part of a pattern takes any run of bytes, or one byte that passes a test.
pub data Part : Type 0 where
  Many : Part
  One : (ℕ → Bool) → Part

-- The parts of a pattern, whose front may be the items of an open set. It is None if a set isn't
-- closed.
abbrev pub parts_from : Option (List ℕ) → List ℕ → Option (List Part)
parts_from None [] = Some []
parts_from None (byte ∷ bytes) =
    if byte == star then option_map (λ ps. Many ∷ ps) (parts_from None bytes)
    else (if byte == question then option_map (λ ps. One (λ b. true) ∷ ps) (parts_from None bytes)
    else (if byte == bracket then parts_from (Some []) bytes
    else option_map (λ ps. One (λ b. b == byte) ∷ ps) (parts_from None bytes)))
parts_from (Some items) [] = None
parts_from (Some items) (byte ∷ bytes) =
    if byte == closing then option_map (λ ps. One (is_in_set items) ∷ ps) (parts_from None bytes)
    else parts_from (Some (items ++ byte ∷ [])) bytes

-- Whether some end of the text passes a test, also the whole of it or the empty one.
abbrev pub some_end : (List ℕ → Bool) → List ℕ → Bool
some_end test [] = test []
some_end test (byte ∷ text) = test (byte ∷ text) || some_end test text

-- Whether the parts, in their order, take the whole text.
abbrev pub parts_take : List Part → List ℕ → Bool
parts_take [] text = length text == 0
parts_take (Many ∷ ps) text = some_end (parts_take ps) text
parts_take (One test ∷ ps) [] = false
parts_take (One test ∷ ps) (byte ∷ text) = test byte && parts_take ps text
