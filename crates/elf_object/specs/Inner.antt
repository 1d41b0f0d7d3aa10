-- What the steps of reading an object file guarantee each other.
-- It belongs to the code: no public meaning rests on it.
use Rattle.std.specs.Prelude.{◌≡◌, ℕ, ◌+◌, ◌<◌, ◌≤◌, Bool, true, List, length, map, get_or, Some}
use Rattle.elf_format.specs.declared.section.TheConstants.{SHT_RELA}
use Rattle.elf_object.specs.declared.met.ListedPlaces.{ListedPlaces}
use Rattle.elf_object.specs.declared.place.RelaPlace.{RelaPlace}
use Rattle.elf_sections.specs.declared.section.Section.{Section}
use Rattle.elf_object.specs.declared.symbol.Symbol.{Symbol}
use Rattle.elf_object.specs.Overlap.{IsOrderOf}
use Rattle.elf_object.specs.Places.{is_applied, lies_unkept, room_in}
use Rattle.elf_sections.specs.Shape.{section_count}
use Rattle.elf_sections.specs.Sections.{section_of}
use Rattle.elf_object.specs.Symbols.{symbol_table}

-- The sections that the tables of a file name exist: the string table of the symbols, and the
-- sections that relocations change.
pub record TablesFit (b : List ℕ) : Type 0 where
  pub table : (t : ℕ) → symbol_table b ≡ Some t → t < section_count b
  pub names : (t : ℕ) → symbol_table b ≡ Some t → (section_of b t).link < section_count b
  pub targets : (i : ℕ) → i < section_count b → (section_of b i).kind ≡ SHT_RELA
      → (section_of b i).info < section_count b

-- For each symbol whether it lies in a section that isn't kept. gABI 4, "Symbol Table", st_shndx.
abbrev pub unkept_flags : List Section → List Symbol → List Bool
unkept_flags sections symbols = map (lies_unkept sections) symbols

-- These places are listed, and what is known of their order holds.
pub record AreListed (l : ListedPlaces) (places : List RelaPlace) : Type 0 where
  pub order : IsOrderOf l.order places
  pub list : l.list.items ≡ places

-- The section i holds relocations of the section t, which is kept.
pub record HoldsPlacesOf (b : List ℕ) (t i : ℕ) : Type 0 where
  pub applied : is_applied b i ≡ true
  pub target : (section_of b i).info ≡ t

-- The section k is the first from `from` on that holds relocations of the section t, or the count
-- of sections if none does.
pub record IsNextTable (b : List ℕ) (t from k : ℕ) : Type 0 where
  pub low : from ≤ k
  pub high : k ≤ section_count b
  pub between : (j : ℕ) → from ≤ j → j < k → HoldsPlacesOf b t j → ⊥
  pub here : k < section_count b → HoldsPlacesOf b t k

-- The lists have for each section the first table of its relocations, of those from `from` on, and
-- for each of these the next one of the same section.
pub record AreTargetTables (b first next : List ℕ) (from : ℕ) : Type 0 where
  pub first_length : length first ≡ section_count b
  pub next_length : length next ≡ section_count b
  pub firsts : (t : ℕ) → t < section_count b → IsNextTable b t from (get_or first t 0)
  pub nexts : (i : ℕ) → from ≤ i → i < section_count b → is_applied b i ≡ true
      → IsNextTable b (section_of b i).info (i + 1) (get_or next i 0)

-- No section whose relocations are applied has more bytes that these may change.
abbrev pub HasRoom : List ℕ → ℕ → Type 0
HasRoom b n =
    (i : ℕ) → i < section_count b → is_applied b i ≡ true
    → room_in (section_of b (section_of b i).info) ≤ n
