-- The offsets of an index, which lead to nodes. kmod's index format 2.1, "node offset".
use Rattle.std.specs.Prelude.{ℕ, ◌+◌, ◌*◌, ◌==◌, Bool, not, List, [], ◌∷◌, bit_and}
use Rattle.index_format.specs.declared.numbers.TheConstants.{PLACE_MASK, HAS_PREFIX, HAS_VALUES}
use Rattle.index_format.specs.declared.numbers.TheConstants.{HAS_CHILDREN}

-- The place of the node in the file, in bytes: the low 28 bits.
abbrev pub place_of : ℕ → ℕ
place_of link = bit_and link PLACE_MASK

-- Whether the node has a prefix, values or children: bits 31, 30 and 29. Bit 28 has no meaning.
abbrev pub has_prefix : ℕ → Bool
has_prefix link = not (bit_and link HAS_PREFIX == 0)

abbrev pub has_values : ℕ → Bool
has_values link = not (bit_and link HAS_VALUES == 0)

abbrev pub has_children : ℕ → Bool
has_children link = not (bit_and link HAS_CHILDREN == 0)

-- 1 for a field with content, and 0 for an empty one, which is left out.
abbrev pub flag : {A : Type 0} → List A → ℕ
flag [] = 0
flag (x ∷ xs) = 1

-- The offset of the node at a place with this prefix, these children and these values.
abbrev pub link_to : {A B : Type 0} → ℕ → List ℕ → List A → List B → ℕ
link_to at prefix children values =
    flag prefix * HAS_PREFIX + flag values * HAS_VALUES + flag children * HAS_CHILDREN + at
