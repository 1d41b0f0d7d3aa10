-- The texts of a `.modinfo` section, as the kernel's MODULE_INFO writes them
-- (include/linux/moduleparam.h): `key=value`, each ended by a NUL.
use Rattle.std.specs.Prelude.{ℕ, ◌==◌, Bool, false, true, List, [], ◌∷◌, map, filter}
use Rattle.std.specs.List.{slice_split, before_first, after_first}
use Rattle.std.specs.Str.{bytes_eq}
use Rattle.modinfo_fields.specs.declared.piece.Field.{Field}

-- Whether a piece has a byte.
abbrev pub is_text : List ℕ → Bool
is_text [] = false
is_text (byte ∷ bytes) = true

-- The field of a piece: its key up to the first `=`, and the value after it. A piece without `=` is
-- a key.
unfoldable pub field_of : List ℕ → Field
field_of piece =
    record { key = before_first (λ b. b == 61) piece; value = after_first (λ b. b == 61) piece }

-- The fields of a section's bytes: its pieces between NULs that aren't empty, in order.
unfoldable pub fields_of : List ℕ → List Field
fields_of bytes = map field_of (filter is_text (slice_split (λ b. b == 0) bytes))

-- The values of the fields with this key, in order.
unfoldable pub values_of_key : List ℕ → List Field → List (List ℕ)
values_of_key key fields =
    map (λ field. field.value) (filter (λ field. bytes_eq field.key key) fields)

-- The parameter that a value of `parm` or `parmtype` describes: the bytes before the first `:`, or
-- all if there is none. Its description is what follows. The kernel's include/linux/moduleparam.h.
abbrev pub parameter_of : List ℕ → List ℕ
parameter_of value = before_first (λ b. b == 58) value

abbrev pub description_of : List ℕ → List ℕ
description_of value = after_first (λ b. b == 58) value
