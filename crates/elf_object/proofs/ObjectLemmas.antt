-- The first failing test of an object, by its parts.
use Rattle.km_names.specs.Limit.{file_limit}
use Rattle.elf_object.specs.declared.symbol.Symbol.{Symbol}
use Rattle.elf_object.specs.declared.place.RelaPlace.{RelaPlace}
use Rattle.elf_sections.specs.Sections.{IsRead, section_of, sections_of}
use Rattle.std.proofs.lemmas.List.FromFn.{length-map-range_with_len}
use Rattle.std.specs.Option.{option_map_or}
use Rattle.elf_sections.proofs.ShapeLemmas.{length-contents, length-sections_of, section_of-within}
use Rattle.elf_sections.proofs.ShapeLemmas.{sections_of-slice_get}
use Rattle.elf_object.specs.FaultText.{object_fault_from}
use Rattle.elf_sections.specs.declared.fault.SectionFault.TheVariants.{Memory}
use Rattle.std.proofs.Common.{◌≡◌, ℕ, List, [], ◌∷◌, Option, Some, None, refl, ◌⊎◌, inl, inr}
use Rattle.std.proofs.Common.{length, ◌≤◌, ◌<◌, ◌^◌, ◌&&◌, not, true, arith}
use Rattle.km_names.specs.First.{first}
use Rattle.elf_sections.specs.declared.fault.SectionFault.{SectionFault}
use Rattle.elf_object.specs.declared.fault.ObjectFault.{ObjectFault}
use Rattle.elf_object.specs.declared.fault.ObjectFault.TheVariants.{Shape, BadAlign}
use Rattle.elf_object.specs.declared.fault.ObjectFault.TheVariants.{Memory as OutOfMemory}
use Rattle.elf_sections.specs.Shape.{AllInFile, each, section_count, shape_fault}
use Rattle.elf_sections.specs.Shape.{contents}
use Rattle.elf_object.specs.Symbols.{entries, rel_test, symbol_bytes, symbol_test, symbol_tests}
use Rattle.elf_object.specs.Symbols.{table_test, symbols_of, symbols_in, symbol_in, symbol_names}
use Rattle.elf_object.specs.Symbols.{symbol_table}
use Rattle.elf_object.specs.Places.{align_test, is_alignment, overlap_test, place_tests, places_of}
use Rattle.elf_object.specs.Places.{rela_test}
use Rattle.elf_object.specs.Object.{IsLoadable, IsPlaceIn, IsSectionIn, IsSymbolIn, content_tests}
use Rattle.elf_object.specs.Object.{file_object, object_fault, object_tests}
use Rattle.elf_object.proofs.TestLemmas.{All-range, each-none, fault_if-none, first-parts}
use Rattle.elf_sections.proofs.TestLemmas.{first-failed, first-passed}
use Rattle.elf_object.specs.Inner.{TablesFit}
use Rattle.elf_object.proofs.ApartLemmas.{AllPairs-places_of}
use Rattle.elf_object.proofs.Inside.{IsInSection}
use Rattle.elf_object.proofs.PlaceLemmas.{All-places_of}
use Rattle.elf_object.proofs.SymbolLemmas.{IsSymbolBelow, symbol_in-below}
use Rattle.std.specs.Prelude.{All}
use Rattle.std.specs.List.{range_with_len}
use Rattle.std.proofs.lemmas.Bool.{not-false}
use Rattle.std.proofs.lemmas.List.Elements.{All-map, All-weaker}

first-last : {F : Type 0} (test : Option F) → first (test ∷ []) ≡ test
first-last None = refl
first-last (Some fault) = refl

pub symbol_tests-rel : (b : List ℕ) (fault : ObjectFault)
    → first (each (section_count b) (rel_test b)) ≡ Some fault → first (symbol_tests b) ≡ Some fault
unfolding symbol_tests
symbol_tests-rel b fault rel = rw rel refl

pub symbol_tests-tables : (b : List ℕ) (fault : ObjectFault)
    → first (each (section_count b) (rel_test b)) ≡ None
    → first (each (section_count b) (table_test b)) ≡ Some fault
    → first (symbol_tests b) ≡ Some fault
unfolding symbol_tests
symbol_tests-tables b fault rel tables = rw (rel, tables) refl

pub symbol_tests-symbols : (b : List ℕ) → first (each (section_count b) (rel_test b)) ≡ None
    → first (each (section_count b) (table_test b)) ≡ None
    → first (symbol_tests b) ≡ first (each (entries (symbol_bytes b)) (symbol_test b))
unfolding symbol_tests
symbol_tests-symbols b rel tables =
    rw (rel, tables) (first-last (first (each (entries (symbol_bytes b)) (symbol_test b))))

pub place_tests-align : (b : List ℕ) (fault : ObjectFault)
    → first (each (section_count b) (align_test b)) ≡ Some fault
    → first (place_tests b) ≡ Some fault
unfolding place_tests
place_tests-align b fault align = rw align refl

pub place_tests-rela : (b : List ℕ) (fault : ObjectFault)
    → first (each (section_count b) (align_test b)) ≡ None
    → first (each (section_count b) (rela_test b)) ≡ Some fault → first (place_tests b) ≡ Some fault
unfolding place_tests
place_tests-rela b fault align rela = rw (align, rela) refl

pub place_tests-overlaps : (b : List ℕ) → first (each (section_count b) (align_test b)) ≡ None
    → first (each (section_count b) (rela_test b)) ≡ None
    → first (place_tests b) ≡ first (each (section_count b) (overlap_test b))
unfolding place_tests
place_tests-overlaps b align rela =
    rw (align, rela) (first-last (first (each (section_count b) (overlap_test b))))

pub object_fault-shape : (b : List ℕ) (fault : SectionFault) → shape_fault b ≡ Some fault
    → object_fault b ≡ Some (Shape fault)
unfolding object_fault object_tests
object_fault-shape b fault shape = rw shape refl

pub object_fault-content : (b : List ℕ) → shape_fault b ≡ None
    → object_fault b ≡ first (content_tests b)
unfolding object_fault object_tests
object_fault-content b shape = rw shape refl

pub content_tests-symbols : (b : List ℕ) (fault : ObjectFault) → first (symbol_tests b) ≡ Some fault
    → first (content_tests b) ≡ Some fault
content_tests-symbols b fault symbols = first-failed (symbol_tests b) (place_tests b) fault symbols

pub content_tests-places : (b : List ℕ) → first (symbol_tests b) ≡ None
    → first (content_tests b) ≡ first (place_tests b)
content_tests-places b symbols = first-passed (symbol_tests b) (place_tests b) symbols

-- a fault of the sections, as one of the object
pub object_fault-from : (b : List ℕ) (fault : SectionFault)
    → (fault ≡ Memory) ⊎ (shape_fault b ≡ Some fault)
    → (object_fault_from fault ≡ OutOfMemory) ⊎ (object_fault b ≡ Some (object_fault_from fault))
object_fault-from b Memory outcome = inl refl
object_fault-from b fault outcome =
    elim outcome [ inl never ↦ inl (cc) | inr failed ↦ inr (object_fault-shape b _ failed) ]

-- the symbols of a file are few
pub length-symbols_of : (b : List ℕ) → length b ≤ file_limit → length (symbols_of b) < 2 ^ 32
unfolding symbols_of symbols_in symbol_bytes
length-symbols_of b small =
    let table = symbol_bytes b in
    let bytes : length table ≤ length b
    = elim (symbol_table b) as (λ o. length (option_map_or (contents b) o []) ≤ length b)
    [ None ↦ omega arith | Some t ↦ length-contents b t ] in
    rw (length-map-range_with_len (symbol_in table (symbol_names b)) 0 (entries table))
    (omega arith)

-- the parts of tests that passed
symbol_tests-parts : (b : List ℕ) → first (symbol_tests b) ≡ None
    → first (each (entries (symbol_bytes b)) (symbol_test b)) ≡ None
unfolding symbol_tests
symbol_tests-parts b passed =
    let one = first-parts (first (each (section_count b) (rel_test b))) _ passed in
    let two = first-parts (first (each (section_count b) (table_test b))) _ one.1 in
    (first-parts (first (each (entries (symbol_bytes b)) (symbol_test b))) [] two.1).0

record PlacesPassed (b : List ℕ) : Type 0 where
  aligned : first (each (section_count b) (align_test b)) ≡ None
  placed : first (each (section_count b) (rela_test b)) ≡ None
  apart : first (each (section_count b) (overlap_test b)) ≡ None

place_tests-parts : (b : List ℕ) → first (place_tests b) ≡ None → PlacesPassed b
unfolding place_tests
place_tests-parts b passed =
    let one = first-parts (first (each (section_count b) (align_test b))) _ passed in
    let two = first-parts (first (each (section_count b) (rela_test b))) _ one.1 in
    record {
      aligned = one.0;
      placed = two.0;
      apart = (first-parts (first (each (section_count b) (overlap_test b))) [] two.1).0;
    }

-- a kept section that passed its test
align_test-kept : (b : List ℕ) (i : ℕ) → align_test b i ≡ None → (section_of b i).kept ≡ true
    → is_alignment (section_of b i).align ≡ true
unfolding align_test
align_test-kept b i passed kept =
    let s = section_of b i in
    let both = fault_if-none (s.kept && not (is_alignment s.align)) (BadAlign i) passed in
    not-false (is_alignment s.align) (rw kept at both)

-- the sections of a file that passed their tests
All-sections_of : (b : List ℕ) → AllInFile b → first (each (section_count b) (align_test b)) ≡ None
    → All (IsSectionIn b) (sections_of b)
unfolding sections_of
All-sections_of b within passed =
    All-map (IsSectionIn b) (section_of b) (range_with_len 0 (section_count b))
    (All-range (λ i. IsSectionIn b (section_of b i)) (section_count b) (λ i less. record {
      within = section_of-within b i less within;
      aligned = align_test-kept b i (each-none (section_count b) (align_test b) passed i less);
    }))

IsSymbolIn-below : (b : List ℕ) (s : Symbol) → IsSymbolBelow (section_count b) s
    → IsSymbolIn (sections_of b) s
IsSymbolIn-below b s below = record {
  section = λ ordinary. rw (length-sections_of b) (below.section ordinary);
  absolute = below.absolute;
  binding = below.binding;
}

-- the symbols of a file that passed their tests
All-symbols_of : (b : List ℕ) → 0 < section_count b
    → first (each (entries (symbol_bytes b)) (symbol_test b)) ≡ None
    → All (IsSymbolIn (sections_of b)) (symbols_of b)
unfolding symbols_of symbols_in
All-symbols_of b some passed =
    let table = symbol_bytes b in
    let names = symbol_names b in
    All-map (IsSymbolIn (sections_of b)) (symbol_in table names) (range_with_len 0 (entries table))
    (All-range (λ j. IsSymbolIn (sections_of b) (symbol_in table names j)) (entries table)
    (λ j less. IsSymbolIn-below b (symbol_in table names j)
    (symbol_in-below table names (section_count b) j some
    (each-none (entries table) (symbol_test b) passed j less))))

IsPlaceIn-inside : (b : List ℕ) (p : RelaPlace) → IsInSection b p
    → IsPlaceIn (sections_of b) (symbols_of b) p
IsPlaceIn-inside b p inside = record {
  known = inside.known;
  symbol = inside.symbol;
  target = rw (length-sections_of b) inside.target;
  kept = rw (sections_of-slice_get b p.target inside.target) inside.kept;
  within
      = λ some. rw (sections_of-slice_get b p.target inside.target)
      (inside.bytes some, inside.within some);
  linked = inside.linked;
}

-- an object whose file passed its tests can be loaded
pub IsLoadable-passed : (b : List ℕ) → IsRead b (sections_of b) → TablesFit b
    → first (symbol_tests b) ≡ None → first (place_tests b) ≡ None → IsLoadable (file_object b)
IsLoadable-passed b read fit symbols places =
    let passed = place_tests-parts b places in
    let inside = All-places_of b read.table read.within fit passed.placed in
    let names = read.table.names in
    record {
      sections = All-sections_of b read.within passed.aligned;
      symbols = All-symbols_of b (omega arith) (symbol_tests-parts b symbols);
      places
          = All-weaker (IsInSection b) (IsPlaceIn (sections_of b) (symbols_of b))
          (IsPlaceIn-inside b) (places_of b) inside;
      apart = AllPairs-places_of b inside passed.apart;
    }
