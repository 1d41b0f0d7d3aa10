-- What the tests of a file's shape say.
use Rattle.std.proofs.Common.{◌≡◌, ℕ, ◌<◌, ◌≤◌, true, false, List, [], ◌∷◌, ◌++◌, Bool, length}
use Rattle.std.proofs.Common.{take, drop, get_or, if◌then◌else◌, Some, None, refl, sym, ap, ◌∙◌}
use Rattle.std.proofs.Common.{arith, ◌+◌, Bool}
use Rattle.std.proofs.lemmas.Bool.Decides.{nat_tests}
use Rattle.km_names.specs.First.{first}
use Rattle.elf_sections.specs.declared.fault.SectionFault.{SectionFault}
use Rattle.elf_sections.specs.Shape.{AllInFile, content, contents, each, has_content, header_tests}
use Rattle.elf_sections.specs.Shape.{is_table, name_table, name_in, name_table_test, name_test}
use Rattle.elf_sections.specs.Shape.{name_test_in, content_test, section_count, section_header}
use Rattle.elf_sections.specs.Shape.{shape_fault, shape_tests}
use Rattle.elf_sections.specs.Strings.{HasStrings}
use Rattle.elf_sections.specs.Sections.{IsRead, bytes_of, section_of, sections_of}
use Rattle.std.proofs.lemmas.List.{length-drop, length-take}
use Rattle.std.proofs.lemmas.List.FromFn.{get_or-map-range_with_len, length-map-range_with_len}
use Rattle.std.proofs.lemmas.Option.{slice_get-get_or}
use Rattle.std.specs.Bool.{IsTrue}
use Rattle.std.specs.Option.{IfSome}
use Rattle.std.specs.List.{slice_get}
use Rattle.elf_sections.specs.declared.section.Section.{Section}
use Rattle.elf_sections.proofs.TestLemmas.{first-failed, first-passed}

-- what the test of the section header table's numbers says
pub is_table-numbers : (b : List ℕ) → is_table b ≡ true
    → (name_table b < section_count b) × (section_count b < 0xff00)
unfolding is_table
is_table-numbers b passed = grind (arith, nat_tests)

-- A fault of the file header decides.
pub shape_fault-header : (b : List ℕ) (fault : SectionFault) → first (header_tests b) ≡ Some fault
    → shape_fault b ≡ Some fault
unfolding shape_fault shape_tests
shape_fault-header b fault failed =
    first-failed (header_tests b ++ each (section_count b) (content_test b)) _ fault
    (first-failed (header_tests b) _ fault failed)

-- Then a section that doesn't lie in the file does.
pub shape_fault-places : (b : List ℕ) (fault : SectionFault) → first (header_tests b) ≡ None
    → first (each (section_count b) (content_test b)) ≡ Some fault → shape_fault b ≡ Some fault
unfolding shape_fault shape_tests
shape_fault-places b fault header failed =
    first-failed (header_tests b ++ each (section_count b) (content_test b)) _ fault
    (first-passed (header_tests b) _ header ∙ failed)

-- After both the names decide.
pub shape_fault-names : (b : List ℕ) → first (header_tests b) ≡ None
    → first (each (section_count b) (content_test b)) ≡ None
    → shape_fault b ≡ first (name_table_test b ∷ each (section_count b) (name_test b))
unfolding shape_fault shape_tests
shape_fault-names b header places =
    first-passed (header_tests b ++ each (section_count b) (content_test b)) _
    (first-passed (header_tests b) _ header ∙ places)

-- As many sections as the file header says.
pub length-sections_of : (b : List ℕ) → length (sections_of b) ≡ section_count b
unfolding sections_of
length-sections_of b = length-map-range_with_len (section_of b) 0 (section_count b)

-- As many of the list as the file header says.
pub length-read : (b : List ℕ) (sections : List Section) → IsRead b sections
    → length sections ≡ section_count b
length-read b sections read = ap length read.list_is ∙ length-sections_of b

-- The test of a name under a table with the same strings.
pub name_test-same : (b names : List ℕ) (i : ℕ) → HasStrings (contents b (name_table b)) names
    → name_test_in names (section_header b i).kind (section_header b i).name ≡ name_test b i
unfolding name_test_in
name_test-same b names i same = rw (same.strings (section_header b i).name) refl

pub name_in-same : (table names : List ℕ) (kind at : ℕ) → HasStrings table names
    → name_in names kind at ≡ name_in table kind at
unfolding name_in
name_in-same table names kind at same = rw (same.strings at) refl

-- The bytes of a section, by the list or by the header.
pub bytes_of-section_of : (b : List ℕ) (i : ℕ) → bytes_of b (section_of b i) ≡ contents b i
unfolding section_of
bytes_of-section_of b i = refl

-- The section at a number below the count.
pub sections_of-at : (b : List ℕ) (i : ℕ) (d : Section) → i < section_count b
    → get_or (sections_of b) i d ≡ section_of b i
unfolding sections_of
sections_of-at b i d less =
    get_or-map-range_with_len (section_of b) 0 (section_count b) i i d less (omega arith)

-- A section has no more bytes than the file.
pub length-contents : (b : List ℕ) (i : ℕ) → length (contents b i) ≤ length b
unfolding content
length-contents b i =
    let h = section_header b i in
    elim (has_content h.kind) as
    (λ (t : Bool). length (if t then take h.size (drop h.offset b) else []) ≤ length b) [
      | true ↦ omega (arith, length-take h.size (drop h.offset b), length-drop h.offset b)
      | false ↦ omega arith
    ]

pub sections_of-slice_get : (b : List ℕ) (i : ℕ) → i < section_count b
    → slice_get (sections_of b) i ≡ Some (section_of b i)
sections_of-slice_get b i less =
    let length_is = length-sections_of b in
    slice_get-get_or (sections_of b) i (section_of b i) (omega arith)
    ∙ ap Some (sections_of-at b i (section_of b i) less)

-- The bytes of the section at a number.
pub bytes_of-slice_get : (b : List ℕ) (i : ℕ) (bytes : List ℕ) → i < section_count b
    → bytes ≡ contents b i → IfSome (slice_get (sections_of b) i) (λ s. bytes ≡ bytes_of b s)
bytes_of-slice_get b i bytes less is =
    rw (sections_of-slice_get b i less) (is ∙ sym (bytes_of-section_of b i))

-- A section of a file whose sections lie in it.
pub section_of-within : (b : List ℕ) (i : ℕ) → i < section_count b → AllInFile b
    → IsTrue (has_content (section_of b i).kind)
    → (section_of b i).offset + (section_of b i).size ≤ length b
unfolding section_of
section_of-within b i less within has = within i less has
