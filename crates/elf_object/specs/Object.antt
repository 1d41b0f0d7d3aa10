-- An object file: its sections, its symbols, and the places that its relocations change.
-- gABI 4, "Object Files"; x86-64 psABI, "Object Files".
use Rattle.std.specs.Prelude.{◌≡◌, ◌≢◌, ℕ, ◌+◌, ◌^◌, ◌<◌, ◌≤◌, true, false, List, ◌∷◌, ◌++◌, length}
use Rattle.std.specs.Prelude.{All, AllPairs, IsTrue, IfSome, Option, option_map, slice_get}
use Rattle.elf_format.specs.declared.section.TheConstants.{SHT_NOBITS}
use Rattle.elf_format.specs.declared.symbol.TheConstants.{SHN_LORESERVE, SHN_ABS, STB_WEAK}
use Rattle.elf_format.specs.Relocation.{IsKnown}
use Rattle.km_names.specs.First.{first}
use Rattle.km_names.specs.Limit.{file_limit}
use Rattle.elf_sections.specs.declared.section.Section.{Section}
use Rattle.elf_object.specs.declared.symbol.Symbol.{Symbol}
use Rattle.elf_object.specs.declared.place.RelaPlace.{RelaPlace}
use Rattle.elf_object.specs.declared.fault.ObjectFault.{ObjectFault}
use Rattle.elf_object.specs.declared.fault.ObjectFault.TheVariants.{Shape}
use Rattle.elf_sections.specs.Shape.{has_content, shape_fault}
use Rattle.elf_sections.specs.Sections.{FileSections, sections_of}
use Rattle.elf_object.specs.Symbols.{symbol_tests, symbols_of}
use Rattle.elf_object.specs.Places.{is_alignment, is_unkept, place_tests, place_width, places_of}

-- A file with its sections, its symbols, and the places that its relocations change.
pub record FileObject : Type 0 where
  pub file : List ℕ
  pub sections : List Section
  pub symbols : List Symbol
  pub places : List RelaPlace

-- The object of a file.
abbrev pub file_object : List ℕ → FileObject
file_object b =
    record { file = b; sections = sections_of b; symbols = symbols_of b; places = places_of b }

-- One section of a file is valid: its bytes are in the file, and its alignment is valid if it is
-- kept in memory. gABI 4, "Sections", sh_size and sh_addralign.
pub record IsSectionIn (file : List ℕ) (s : Section) : Type 0 where
  pub within : IsTrue (has_content s.kind) → s.offset + s.size ≤ length file
  pub aligned : s.kept ≡ true → is_alignment s.align ≡ true

-- One symbol is valid. Its section is one of these unless its number is reserved, and the one
-- reserved number is SHN_ABS. Its binding is one of the three. gABI 4, "Symbol Table".
pub record IsSymbolIn (sections : List Section) (s : Symbol) : Type 0 where
  pub section : s.section < SHN_LORESERVE → s.section < length sections
  pub absolute : SHN_LORESERVE ≤ s.section → s.section ≡ SHN_ABS
  pub binding : s.binding ≤ STB_WEAK

-- One place is valid: its type is known, its symbol is one of these, and its target is one of these
-- sections and kept. If it changes bytes, they lie in the target, which has bytes in the file, and
-- the symbol doesn't lie in a section that isn't kept. gABI 4, "Relocation".
pub record IsPlaceIn (sections : List Section) (symbols : List Symbol) (p : RelaPlace) : Type 0
  where
    pub known : IsKnown p.kind
    pub symbol : p.symbol < length symbols
    pub target : p.target < length sections
    pub kept : IfSome (slice_get sections p.target) (λ t. t.kept ≡ true)
    pub within : 0 < place_width p
        → IfSome (slice_get sections p.target)
        (λ t. (t.kind ≢ SHT_NOBITS) × (p.offset + place_width p ≤ t.size))
    pub linked : 0 < place_width p → is_unkept sections symbols p.symbol ≡ false

-- The place changes the byte at x of its target.
abbrev pub Changes : RelaPlace → ℕ → Type 0
Changes p x = (p.offset ≤ x) × (x < p.offset + place_width p)

-- No byte of one target is changed by both places.
abbrev pub AreApart : RelaPlace → RelaPlace → Type 0
AreApart p q = p.target ≡ q.target → (x : ℕ) → Changes p x → Changes q x → ⊥

-- What a loader needs to know: each section, symbol and place is valid among the others, and no two
-- places change one byte.
pub record IsLoadable (o : FileObject) : Type 0 where
  pub sections : All (IsSectionIn o.file) o.sections
  pub symbols : All (IsSymbolIn o.sections) o.symbols
  pub places : All (IsPlaceIn o.sections o.symbols) o.places
  pub apart : AllPairs AreApart o.places

-- What is known of the parts of every object that was read.
pub record IsObject (sections : FileSections) (symbols : List Symbol) (places : List RelaPlace) :
    Type 0 where
  pub listed : places ≡ places_of sections.file
  pub small : length sections.file ≤ file_limit
  pub few : length symbols < 2 ^ 32
  pub loadable : IsLoadable
      (record
      { file = sections.file; sections = sections.list; symbols = symbols; places = places })

-- The tests of the contents of a file's sections, in order.
abbrev pub content_tests : List ℕ → List (Option ObjectFault)
content_tests b = symbol_tests b ++ place_tests b

-- The tests that an object file passes, in order.
unfoldable pub object_tests : List ℕ → List (Option ObjectFault)
object_tests b = option_map (λ fault. Shape fault) (shape_fault b) ∷ content_tests b

-- The fault of an object file: the first test that fails.
unfoldable pub object_fault : List ℕ → Option ObjectFault
object_fault b = first (object_tests b)
