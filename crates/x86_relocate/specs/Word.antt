-- The words of the x86-64's relocations. System V ABI, x86-64 supplement, "Relocation", the table
-- of types, with S the address of the symbol, A the addend and P the address of the place.
use Rattle.std.specs.Prelude.{ℕ, ◌-◌, ◌%◌, ◌^◌, ◌==◌, ◌&&◌, ◌||◌, ℤ, pos, negsuc, neg_ℤ, ◌+ℤ◌, ◌-ℤ◌}
use Rattle.std.specs.Prelude.{int_le, nat_lt, if◌then◌else◌, Result, Ok, Err}
use Rattle.elf_format.specs.declared.relocation.TheConstants.{R_X86_64_NONE, R_X86_64_64}
use Rattle.elf_format.specs.declared.relocation.TheConstants.{R_X86_64_PC32, R_X86_64_PLT32}
use Rattle.elf_format.specs.declared.relocation.TheConstants.{R_X86_64_32, R_X86_64_32S}
use Rattle.km_names.specs.Number.{signed}
use Rattle.x86_relocate.specs.declared.word.TooWide.{TooWide}
use Rattle.x86_relocate.specs.declared.word.Written.{Written}
use Rattle.x86_relocate.specs.declared.word.Written.TheVariants.{Nothing, Four, Eight}

-- A whole number modulo 2^64, from 0 up.
abbrev pub modulo : ℤ → ℕ
modulo (pos n) = n % 2 ^ 64
modulo (negsuc n) = 2 ^ 64 - 1 - n % 2 ^ 64

-- The field word64: the whole value.
abbrev pub word64 : ℕ → Result Written TooWide
word64 value = Ok (Eight value)

-- The field word32 of R_X86_64_32: its zero extension has to be the value.
abbrev pub zero_extended : ℕ → Result Written TooWide
zero_extended value = if nat_lt value (2 ^ 32) then Ok (Four value) else Err (record {})

-- The field word32 of the other types: its sign extension has to be the value.
abbrev pub sign_extended : ℕ → Result Written TooWide
sign_extended value =
    if int_le (neg_ℤ (pos (2 ^ 31))) (signed value) && int_le (signed value) (pos (2 ^ 31 - 1))
    then Ok (Four (value % 2 ^ 32))
    else Err (record {})

-- What a relocation writes: S + A, or S + A - P, in the field of its type. The table computes
-- R_X86_64_PLT32 from the entry of a procedure linkage table. There is none here, and as in Linux's
-- loader the symbol itself is used. That R_X86_64_PC32 may be too wide is this project's rule;
-- Linux doesn't test it. The one known type that no test names is R_X86_64_PC64.
unfoldable pub word : ℕ → ℕ → ℤ → ℕ → Result Written TooWide
word kind s a p =
    let absolute = modulo (pos s +ℤ a) in
    let relative = modulo (pos s +ℤ a -ℤ pos p) in
    if kind == R_X86_64_NONE then Ok Nothing else (
    if kind == R_X86_64_64 then word64 absolute else (
    if kind == R_X86_64_PC32 || kind == R_X86_64_PLT32 then sign_extended relative else (
    if kind == R_X86_64_32 then zero_extended absolute else (
    if kind == R_X86_64_32S then sign_extended absolute else word64 relative))))
