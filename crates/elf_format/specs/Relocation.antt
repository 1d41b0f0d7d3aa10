-- The types of relocations. x86-64 psABI, "Relocation Types".
use Rattle.std.specs.Prelude.{ℕ, ◌==◌, ◌||◌, if◌then◌else◌, Option, Some, None, IsSome, unwrap_or}
use Rattle.elf_format.specs.declared.relocation.TheConstants.{R_X86_64_NONE, R_X86_64_64}
use Rattle.elf_format.specs.declared.relocation.TheConstants.{R_X86_64_PC32, R_X86_64_PLT32}
use Rattle.elf_format.specs.declared.relocation.TheConstants.{R_X86_64_32, R_X86_64_32S}
use Rattle.elf_format.specs.declared.relocation.TheConstants.{R_X86_64_PC64}

-- The number of bytes that a relocation of this type changes, if the type is known: none, the 8 of
-- a word64, or the 4 of a word32.
abbrev pub width : ℕ → Option ℕ
width kind =
    if kind == R_X86_64_NONE then Some 0
    else (if kind == R_X86_64_64 || kind == R_X86_64_PC64 then Some 8
    else (if kind == R_X86_64_PC32
    || kind == R_X86_64_PLT32
    || kind == R_X86_64_32
    || kind == R_X86_64_32S
    then Some 4
    else None))

-- The type is one of these.
abbrev pub IsKnown : ℕ → Type 0
IsKnown kind = IsSome (width kind)

-- The number of bytes that a relocation of this type changes, and 0 if the type isn't known.
abbrev pub known_width : ℕ → ℕ
known_width kind = unwrap_or (width kind) 0
