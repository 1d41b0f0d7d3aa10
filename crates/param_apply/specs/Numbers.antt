-- Numbers and truth values as options state them. The forms are the ones of the kernel's kstrtoull
-- and kstrtobool (lib/kstrtox.c). A number has to end where its digits do, and begins with at most
-- one sign, as there.
use Rattle.std.specs.Prelude.{ℕ, ◌+◌, ◌-◌, ◌/◌, ◌%◌, ◌^◌, ◌==◌, ◌&&◌, ◌||◌, nat_lt, nat_eq, not}
use Rattle.std.specs.Prelude.{Bool, if◌then◌else◌, List, length, drop, codes, Option, Some, None}
use Rattle.std.specs.Prelude.{option_map}
use Rattle.std.specs.List.{list_all, starts_with}
use Rattle.std.specs.Char.{is_digit}
use Rattle.std.specs.Str.{bytes_eq}
use Rattle.std.specs.Str.Parse.{digits_value}
use Rattle.param_apply.specs.declared.kind.Width.{Width}
use Rattle.param_apply.specs.declared.kind.Width.TheVariants.{One, Two, Four, Eight}

-- The number of bytes of a value of a width.
abbrev pub bytes_in : Width → ℕ
bytes_in One = 1
bytes_in Two = 2
bytes_in Four = 4
bytes_in Eight = 8

-- How many numbers these bytes have.
abbrev pub numbers_in : Width → ℕ
numbers_in One = 2 ^ 8
numbers_in Two = 2 ^ 16
numbers_in Four = 2 ^ 32
numbers_in Eight = 2 ^ 64

-- Whether a text begins with another.
abbrev pub begins : List ℕ → List ℕ → Bool
begins text front = starts_with nat_eq text front

-- A number, if it is below a limit.
abbrev pub below : ℕ → Option ℕ → Option ℕ
below limit None = None
below limit (Some n) = if nat_lt n limit then Some n else None

-- The number that a text states in one or more digits of a radix, the highest digit first.
unfoldable pub digits : ℕ → List ℕ → Option ℕ
digits radix text =
    if not (length text == 0) && list_all (λ b. is_digit b radix) text
    then Some (digits_value radix text)
    else None

-- Whether a text begins as a number in hexadecimal does: with `0x` or `0X`.
abbrev pub is_hexadecimal : List ℕ → Bool
is_hexadecimal text = begins text (codes "0x") || begins text (codes "0X")

-- The number that a text states without a sign: a single `0`; in hexadecimal; in octal, which is
-- `0` and digits; or in decimal, whose first digit isn't 0.
unfoldable pub magnitude : List ℕ → Option ℕ
magnitude text =
    if bytes_eq text (codes "0") then Some 0
    else if is_hexadecimal text then digits 16 (drop 2 text)
    else if begins text (codes "0") then digits 8 (drop 1 text)
    else digits 10 text

-- The number that a text states without a sign or after a `+`.
unfoldable pub positive : List ℕ → Option ℕ
positive text = if begins text (codes "+") then magnitude (drop 1 text) else magnitude text

-- A number of an unsigned type of this width.
unfoldable pub unsigned : Width → List ℕ → Option ℕ
unsigned w text = below (numbers_in w) (positive text)

-- A number below zero, or `-0`, by what follows its `-`, in two's complement.
unfoldable pub negative : Width → List ℕ → Option ℕ
negative w text =
    option_map (λ n. (numbers_in w - n) % numbers_in w)
    (below (numbers_in w / 2 + 1) (magnitude text))

-- A number of a signed type of this width, in two's complement.
unfoldable pub signed : Width → List ℕ → Option ℕ
signed w text =
    if begins text (codes "-")
    then negative w (drop 1 text)
    else below (numbers_in w / 2) (positive text)

-- Whether the front of a text means true, and whether it means false.
abbrev pub is_on : List ℕ → Bool
is_on text =
    begins text (codes "1") || begins text (codes "y") || begins text (codes "Y")
    || begins text (codes "on")
    || begins text (codes "oN")
    || begins text (codes "On")
    || begins text (codes "ON")

abbrev pub is_off : List ℕ → Bool
is_off text =
    begins text (codes "0") || begins text (codes "n") || begins text (codes "N")
    || begins text (codes "of")
    || begins text (codes "oF")
    || begins text (codes "Of")
    || begins text (codes "OF")

-- A truth value: 1 or 0.
unfoldable pub truth : List ℕ → Option ℕ
truth text = if is_on text then Some 1 else if is_off text then Some 0 else None
