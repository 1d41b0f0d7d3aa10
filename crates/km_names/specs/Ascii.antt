-- Texts in ASCII: words of visible characters, and numbers in hexadecimal digits.
use Rattle.std.specs.Prelude.{ℕ, List, Bool, not, ◌&&◌, ◌==◌, nat_le, length, if◌then◌else◌, Option}
use Rattle.std.specs.Prelude.{Some, None, nat_eq, codes, drop}
use Rattle.std.specs.List.{list_all, starts_with}
use Rattle.std.specs.Char.{is_ascii_graphic, is_digit}
use Rattle.std.specs.Str.Parse.{digits_value}

-- Whether a text is a word of visible characters: it isn't empty, and each of its bytes is one of
-- 33 to 126. isgraph(3).
unfoldable pub is_graphic : List ℕ → Bool
is_graphic text = not (length text == 0) && list_all is_ascii_graphic text

-- The number that a text states in 1 to 16 hexadecimal digits of either case. It is None if the
-- text isn't such a number. proc(5) has addresses in this form, in `kallsyms`.
unfoldable pub hexadecimal : List ℕ → Option ℕ
hexadecimal text =
    if not (length text == 0) && nat_le (length text) 16 && list_all (λ b. is_digit b 16) text
    then Some (digits_value 16 text) else None

-- The number that a text states as `0x` and 1 to 16 hexadecimal digits.
unfoldable pub prefixed_hexadecimal : List ℕ → Option ℕ
prefixed_hexadecimal text =
    if starts_with nat_eq text (codes "0x") then hexadecimal (drop 2 text) else None
