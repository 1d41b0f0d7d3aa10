-- The normal form of aliases and of their patterns, as kmod keeps them: modprobe.d(5), "alias".
use Rattle.std.specs.Prelude.{ℕ, List, [], ◌∷◌, ◌++◌, Bool, true, not, ◌&&◌, ◌==◌, if◌then◌else◌}
use Rattle.std.specs.Prelude.{Option, Some, None, map, drop, unwrap_or}
use Rattle.std.specs.List.{slice_split, before_first, position_or_len, list_any, join_with_byte}
use Rattle.km_names.specs.Path.{underscored}

-- Whether a part of a text between closing brackets has an opening one.
abbrev pub opens : List ℕ → Bool
opens part = list_any (λ b. b == 91) part

-- Whether brackets pair in a text that was cut at each `]`. Each part but the last has a `[`, which
-- the `]` after it closes, and the last has none.
abbrev pub brackets_pair : List (List ℕ) → Bool
brackets_pair [] = true
brackets_pair (last ∷ []) = not (opens last)
brackets_pair (part ∷ next ∷ parts) = opens part && brackets_pair (next ∷ parts)

-- A part of such a text, with each `-` before its `[` replaced by `_`.
abbrev pub underscored_outside : List ℕ → List ℕ
underscored_outside part =
    underscored (before_first (λ b. b == 91) part)
    ++ drop (position_or_len (λ b. b == 91) part) part

-- The normal form of an alias or a pattern: each `-` outside brackets becomes `_`. A `[` opens a
-- bracket up to the next `]`. The form is None if a `[` has no `]` after it, or a `]` is outside a
-- bracket.
unfoldable pub normal_alias : List ℕ → Option (List ℕ)
normal_alias text =
    let parts = slice_split (λ b. b == 93) text in
    if brackets_pair parts then Some (join_with_byte 93 (map underscored_outside parts)) else None

-- A name in its normal form, or as it is if it has none.
abbrev pub normal_or_itself : List ℕ → List ℕ
normal_or_itself name = unwrap_or (normal_alias name) name
