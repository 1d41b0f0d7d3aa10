-- The numbers of devices in texts: a major and a minor number. mknod(1), the kernel's
-- include/linux/kdev_t.h.
use Rattle.std.specs.Prelude.{ℕ, ◌^◌, ◌==◌, ◌&&◌, not, Bool, List, length, nat_lt, nat_le, Option}
use Rattle.std.specs.Prelude.{Some, None, option_map, option_and_then, if◌then◌else◌, slice_index}
use Rattle.std.specs.List.{list_all, before_first, after_first}
use Rattle.std.specs.Char.{is_digit}
use Rattle.std.specs.Str.Parse.{digits_value}

-- The number below 2^32 that a text states in 1 to 10 decimal digits. It is None if the text isn't
-- such a number.
unfoldable pub number : List ℕ → Option ℕ
number text =
    if not (length text == 0)
    && nat_le (length text) 10
    && list_all (λ b. is_digit b 10) text
    && nat_lt (digits_value 10 text) (2 ^ 32)
    then Some (digits_value 10 text) else None

-- Whether a text begins with a `0` and has more bytes.
abbrev pub has_leading_zero : List ℕ → Bool
has_leading_zero text = nat_lt 1 (length text) && slice_index text 0 == 48

-- The number that a text states without a zero before its first digit.
abbrev pub plain_number : List ℕ → Option ℕ
plain_number text = if has_leading_zero text then None else number text

-- The two numbers that a text states, by how each is read, with a byte between them.
abbrev pub numbers_by : (List ℕ → Option ℕ) → ℕ → List ℕ → Option (ℕ × ℕ)
numbers_by read byte text =
    option_and_then
    (λ major. option_map (λ minor. (major, minor)) (read (after_first (λ b. b == byte) text)))
    (read (before_first (λ b. b == byte) text))

-- The numbers of `MAJOR-MINOR`.
abbrev pub numbers : List ℕ → Option (ℕ × ℕ)
numbers text = numbers_by number 45 text

-- The numbers of `MAJOR:MINOR`, without zeros before their first digits.
abbrev pub plain_numbers : List ℕ → Option (ℕ × ℕ)
plain_numbers text = numbers_by plain_number 58 text
