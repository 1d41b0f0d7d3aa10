-- Numbers as words state them: decimal numbers, and a region of addresses.
use Rattle.std.specs.Prelude.{ℕ, ◌^◌, ◌==◌, ◌&&◌, List, not, Option, Some, None, length}
use Rattle.std.specs.Prelude.{nat_le, nat_lt, if◌then◌else◌, option_and_then}
use Rattle.std.specs.List.{list_all, before_first, after_first}
use Rattle.std.specs.Char.{is_digit}
use Rattle.std.specs.Str.Parse.{digits_value}
use Rattle.km_names.specs.Ascii.{prefixed_hexadecimal}
use Rattle.module_region.specs.declared.region.Region.{Region}
use Rattle.module_region.specs.RegionAt.{region_at}

-- The number below 2^64 that a text states in 1 to this many decimal digits, if it is such a text.
unfoldable pub decimal : ℕ → List ℕ → Option ℕ
decimal most text =
    if not (length text == 0)
    && nat_le (length text) most
    && list_all (λ b. is_digit b 10) text
    && nat_lt (digits_value 10 text) (2 ^ 64)
    then Some (digits_value 10 text) else None

-- The region that a text states as `BASE:SIZE`.
unfoldable pub region_of : List ℕ → Option Region
region_of text =
    option_and_then
    (λ base. option_and_then (region_at base)
    (prefixed_hexadecimal (after_first (λ b. b == 58) text)))
    (prefixed_hexadecimal (before_first (λ b. b == 58) text))

-- The region that is asked for, or else the one of the kernel on x86-64: MODULES_VADDR up to
-- MODULES_END of arch/x86/include/asm/pgtable_64_types.h.
abbrev pub region_or_usual : Option (List ℕ) → Option Region
region_or_usual None = region_at 0xffffffffc0000000 0x3f000000
region_or_usual (Some text) = region_of text
