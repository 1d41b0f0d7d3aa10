-- The places that relocations change, and the tests that they pass.
-- gABI 4, "Relocation"; x86-64 psABI, "Relocation Types".
use Rattle.std.specs.Prelude.{ℕ, ◌+◌, ◌*◌, ◌/◌, ◌%◌, ◌^◌, ◌==◌, ◌&&◌, ◌||◌, nat_lt, nat_le, not}
use Rattle.std.specs.Prelude.{Bool, false, if◌then◌else◌, List, [], ◌∷◌, length, map, Option, None}
use Rattle.std.specs.Prelude.{is_none, option_map, slice_get}
use Rattle.std.specs.Int.{is_power_of_two}
use Rattle.std.specs.List.{count_by, flat_map, position, range_with_len}
use Rattle.std.specs.Option.{option_map_or}
use Rattle.km_names.specs.Number.{le, signed}
use Rattle.km_names.specs.First.{first}
use Rattle.elf_format.specs.declared.relocation.TheConstants.{R_X86_64_NONE}
use Rattle.elf_format.specs.declared.section.TheConstants.{SHT_RELA, SHT_NOBITS, PAGE}
use Rattle.elf_format.specs.declared.symbol.TheConstants.{SHN_UNDEF}
use Rattle.elf_format.specs.Relocation.{known_width, width}
use Rattle.elf_sections.specs.declared.section.Section.{Section}
use Rattle.elf_object.specs.declared.symbol.Symbol.{Symbol}
use Rattle.elf_object.specs.declared.place.RelaPlace.{RelaPlace}
use Rattle.elf_object.specs.declared.fault.ObjectFault.{ObjectFault}
use Rattle.elf_object.specs.declared.fault.ObjectFault.TheVariants.{BadAlign, BadRela, UnknownType}
use Rattle.elf_object.specs.declared.fault.ObjectFault.TheVariants.{OverlappingPlaces}
use Rattle.elf_sections.specs.Shape.{contents, each, fault_if, section_count}
use Rattle.elf_sections.specs.Sections.{section_of, sections_of}
use Rattle.elf_object.specs.Symbols.{entries, symbols_of}

-- An alignment is a power of two of at most a page, or 0, which counts as 1. gABI 4, "Sections",
-- sh_addralign.
unfoldable pub is_alignment : ℕ → Bool
is_alignment align = nat_le align PAGE && (align == 0 || is_power_of_two align)

-- The test of the alignment of the section i, if it is kept.
unfoldable pub align_test : List ℕ → ℕ → Option ObjectFault
align_test b i =
    fault_if ((section_of b i).kept && not (is_alignment (section_of b i).align)) (BadAlign i)

-- The relocation j of a section of these bytes, over the section `target`. gABI 4, "Relocation",
-- Elf64_Rela.
unfoldable pub place_in : List ℕ → ℕ → ℕ → ℕ → RelaPlace
place_in table section target j =
    let info = le table (24 * j + 8) 8 in
    record {
      section = section;
      entry = j;
      target = target;
      offset = le table (24 * j) 8;
      symbol = info / 2 ^ 32;
      kind = info % 2 ^ 32;
      addend = signed (le table (24 * j + 16) 8);
    }

-- How many bytes a place changes.
abbrev pub place_width : RelaPlace → ℕ
place_width p = known_width p.kind

-- Whether a symbol lies in a section that isn't kept. An undefined one lies in none, nor does one
-- with a reserved number.
abbrev pub lies_unkept : List Section → Symbol → Bool
lies_unkept sections s =
    not (s.section == SHN_UNDEF)
    && option_map_or (λ t. not t.kept) (slice_get sections s.section) false

-- Whether the symbol k lies in a section that isn't kept.
unfoldable pub is_unkept : List Section → List Symbol → ℕ → Bool
is_unkept sections symbols k = option_map_or (lies_unkept sections) (slice_get symbols k) false

-- How many bytes of a section a relocation may change: none of one without bytes in the file. gABI
-- 4, "Sections", SHT_NOBITS and sh_size.
abbrev pub room_in : Section → ℕ
room_in s = if s.kind == SHT_NOBITS then 0 else s.size

-- Whether a place that changes bytes is invalid: it leaves the `room` bytes of its section, or its
-- symbol lies in a section that isn't kept (`unkept`).
unfoldable pub is_bad_place : Bool → ℕ → RelaPlace → Bool
is_bad_place unkept room p = nat_lt room (p.offset + place_width p) || unkept

-- The tests of a place in its section, in order. They take the count of symbols, whether its own
-- symbol lies in a section that isn't kept, and the number of bytes of its section.
unfoldable pub place_test : ℕ → Bool → ℕ → RelaPlace → Option ObjectFault
place_test count unkept room p =
    first (
    fault_if (nat_le count p.symbol) (BadRela p.section p.entry)
    ∷ fault_if (is_none (width p.kind)) (UnknownType p.section p.entry p.kind)
    ∷ fault_if (not (p.kind == R_X86_64_NONE) && is_bad_place unkept room p)
    (BadRela p.section p.entry)
    ∷ [])

-- Whether the section i holds relocations of a section that is kept.
unfoldable pub is_applied : List ℕ → ℕ → Bool
is_applied b i = (section_of b i).kind == SHT_RELA && (section_of b (section_of b i).info).kept

-- The place that the relocation j of the section i changes.
abbrev pub place_of : List ℕ → ℕ → ℕ → RelaPlace
place_of b i j = place_in (contents b i) i (section_of b i).info j

-- The places of the section i.
unfoldable pub section_places : List ℕ → ℕ → List RelaPlace
section_places b i =
    if is_applied b i then map (place_of b i) (range_with_len 0 (entries (contents b i))) else []

-- The places of a file, by rising section, then by entry.
unfoldable pub places_of : List ℕ → List RelaPlace
places_of b = flat_map (section_places b) (range_with_len 0 (section_count b))

-- The tests of the place that the relocation j of the section i changes.
abbrev pub entry_test : List ℕ → ℕ → ℕ → Option ObjectFault
entry_test b i j =
    let p = place_of b i j in
    place_test (length (symbols_of b)) (is_unkept (sections_of b) (symbols_of b) p.symbol)
    (room_in (section_of b (section_of b i).info)) p

-- The tests of the places of the section i, by rising entry.
unfoldable pub rela_test : List ℕ → ℕ → Option ObjectFault
rela_test b i =
    if is_applied b i then first (each (entries (contents b i)) (entry_test b i)) else None

-- Whether the place p changes the byte at x of the section `target`.
unfoldable pub covers : ℕ → ℕ → RelaPlace → Bool
covers target x p = p.target == target && nat_le p.offset x && nat_lt x (p.offset + place_width p)

-- Whether two places change the byte at x of the section `target`.
unfoldable pub is_shared : List RelaPlace → ℕ → ℕ → Bool
is_shared places target x = nat_lt 1 (count_by (covers target x) places)

-- The test that no byte of the section i is changed by two places. The fault names the least such
-- byte.
unfoldable pub overlap_test : List ℕ → ℕ → Option ObjectFault
overlap_test b i =
    option_map (λ x. OverlappingPlaces i x)
    (position (is_shared (places_of b) i) (range_with_len 0 (section_of b i).size))

-- The tests of the alignments and of the places of a file, in order, each by rising section.
unfoldable pub place_tests : List ℕ → List (Option ObjectFault)
place_tests b =
    first (each (section_count b) (align_test b))
    ∷ first (each (section_count b) (rela_test b))
    ∷ first (each (section_count b) (overlap_test b))
    ∷ []
