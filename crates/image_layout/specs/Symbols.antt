-- The addresses of symbols. gABI 4, "Symbol Table", st_value and st_shndx; x86-64 psABI,
-- "Relocation", S.
use Rattle.std.specs.Prelude.{ℕ, ◌+◌, ◌%◌, ◌^◌, ◌==◌, Bool, false, if◌then◌else◌, List, map, length}
use Rattle.std.specs.Prelude.{slice_index, slice_get}
use Rattle.std.specs.List.{range_with_len}
use Rattle.std.specs.Option.{option_map_or}
use Rattle.elf_format.specs.declared.symbol.TheConstants.{SHN_UNDEF}
use Rattle.elf_sections.specs.declared.section.Section.{Section}
use Rattle.elf_object.specs.declared.symbol.Symbol.{Symbol}
use Rattle.elf_object.specs.Object.{FileObject}
use Rattle.image_layout.specs.Offsets.{offset}

-- Whether the section of this number is in memory.
abbrev pub is_placed : List Section → ℕ → Bool
is_placed sections i = option_map_or (λ s. s.kept) (slice_get sections i) false

-- The address of a symbol of an image at a base. A symbol that is defined elsewhere has the given
-- address. One in a section in memory lies there, by its value. For any other its value is its
-- address.
unfoldable pub symbol_address : List Section → ℕ → ℕ → Symbol → ℕ
symbol_address sections base given s =
    if s.section == SHN_UNDEF then given
    else if is_placed sections s.section then (base + offset sections s.section + s.value) % 2 ^ 64
    else s.value

-- The address of the symbol k. `given` has the address of each symbol that is defined elsewhere.
unfoldable pub address : FileObject → ℕ → List ℕ → ℕ → ℕ
address o base given k =
    option_map_or (symbol_address o.sections base (slice_index given k)) (slice_get o.symbols k) 0

-- The addresses of all symbols.
unfoldable pub addresses : FileObject → ℕ → List ℕ → List ℕ
addresses o base given = map (address o base given) (range_with_len 0 (length o.symbols))
