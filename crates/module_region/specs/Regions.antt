-- Regions of addresses for modules. The kernel's Documentation/arch/x86/x86_64/mm.rst, "module
-- mapping space".
use Rattle.std.specs.Prelude.{◌≡◌, ℕ, ◌+◌, ◌%◌, ◌^◌, ◌<◌, ◌≤◌, ◌==◌, ◌&&◌, nat_le, nat_lt, Bool}
use Rattle.elf_format.specs.declared.section.TheConstants.{PAGE}

-- This many bytes from a base on are whole pages, at least one, and end no later than the last
-- address of 64 bits.
pub record IsRegion (base size : ℕ) : Type 0 where
  pub begins : base % PAGE ≡ 0
  pub whole : size % PAGE ≡ 0
  pub some : 0 < size
  pub ends : base + size ≤ 2 ^ 64

-- Whether this many bytes from a base on are a region.
abbrev pub is_region : ℕ → ℕ → Bool
is_region base size =
    base % PAGE == 0 && size % PAGE == 0 && nat_lt 0 size && nat_le (base + size) (2 ^ 64)
