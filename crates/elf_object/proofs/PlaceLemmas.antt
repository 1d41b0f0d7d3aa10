-- The places of one section, where it is applied and where it isn't.
use Rattle.elf_object.specs.Inner.{TablesFit, unkept_flags}
use Rattle.elf_object.proofs.TestLemmas.{All-range, each-none, fault_if-none, first-parts}
use Rattle.std.specs.Prelude.{◌≢◌, is_none, nat_le, All, IsSome}
use Rattle.elf_object.specs.declared.fault.ObjectFault.TheVariants.{BadRela, UnknownType}
use Rattle.elf_object.specs.declared.place.RelaPlace.{RelaPlace}
use Rattle.elf_sections.proofs.ShapeLemmas.{section_of-within}
use Rattle.elf_object.specs.declared.symbol.Symbol.{Symbol}
use Rattle.elf_sections.specs.declared.section.Section.{Section}
use Rattle.std.proofs.Common.{◌≡◌, ℕ, zero, suc, ◌+◌, ◌<◌, ◌≤◌, ◌==◌, ◌&&◌, nat_lt, not, Bool, true}
use Rattle.std.proofs.Common.{false, get_or, length, inl, inr, List, [], ◌∷◌, ◌++◌, map, None, Some}
use Rattle.std.proofs.Common.{refl, sym, ap, ◌∙◌, subst, arith}
use Rattle.std.proofs.lemmas.List.Elements.{All-append, All-map, All-nil}
use Rattle.std.proofs.lemmas.Bool.{cases_Bool, and_cases, and_from, and_parts, eqb-false, eqb-true}
use Rattle.std.proofs.lemmas.Bool.{ltb-false, ne_eqb, not-false, or_parts, leb-false}
use Rattle.std.proofs.lemmas.List.{append-nil, map-id}
use Rattle.std.proofs.lemmas.List.Concat.{flat_map-append}
use Rattle.std.proofs.lemmas.List.FromFn.{map-range_with_len_more}
use Rattle.std.specs.List.{flat_map, range_with_len}
use Rattle.km_names.specs.First.{first}
use Rattle.elf_format.specs.declared.relocation.TheConstants.{R_X86_64_NONE}
use Rattle.elf_format.specs.declared.section.TheConstants.{SHT_NOBITS, SHT_NULL, SHT_RELA}
use Rattle.elf_format.specs.Relocation.{IsKnown, width}
use Rattle.elf_object.proofs.Inside.{IsInSection}
use Rattle.elf_sections.specs.Shape.{AllInFile, HasTable, contents, each, fault_if, has_content}
use Rattle.elf_sections.specs.Shape.{is_kept, section_count, section_header}
use Rattle.elf_sections.specs.Sections.{section_of, sections_of}
use Rattle.elf_object.specs.Symbols.{entries, symbols_of}
use Rattle.elf_object.specs.Places.{entry_test, is_applied, is_bad_place, is_unkept, place_in}
use Rattle.elf_object.specs.Places.{place_width, place_of, place_test, places_of, rela_test}
use Rattle.elf_object.specs.Places.{room_in, section_places}

-- the first of three tests
first_of_three : (x y z : Bool) → (x && y && z) ≡ true → x ≡ true
first_of_three true y z passed = refl
first_of_three false y z passed = passed

-- A section that is kept and not of type NOBITS has bytes in the file.
has_content-kept : (b : List ℕ) (i : ℕ) → (section_of b i).kept ≡ true
    → ((section_of b i).kind ≡ SHT_NOBITS → ⊥) → has_content (section_of b i).kind ≡ true
unfolding section_of is_kept
has_content-kept b i kept other =
    let kind = (section_header b i).kind in
    let section = first_of_three (not (kind == SHT_NULL)) _ _ kept in
    and_from (not (kind == SHT_NULL)) (not (kind == SHT_NOBITS)) section
    (ap not (ne_eqb kind SHT_NOBITS other))

pub section_places-none : (b : List ℕ) (i : ℕ) → is_applied b i ≡ false → section_places b i ≡ []
unfolding section_places
section_places-none b i unapplied = rw unapplied refl

pub rela_test-none : (b : List ℕ) (i : ℕ) → is_applied b i ≡ false → rela_test b i ≡ None
unfolding rela_test
rela_test-none b i unapplied = rw unapplied refl

pub section_places-some : (b : List ℕ) (i : ℕ) → is_applied b i ≡ true
    → section_places b i ≡ map (place_of b i) (range_with_len 0 (entries (contents b i)))
unfolding section_places
section_places-some b i applied = rw applied refl

pub rela_test-some : (b : List ℕ) (i : ℕ) → is_applied b i ≡ true
    → rela_test b i ≡ first (each (entries (contents b i)) (entry_test b i))
unfolding rela_test
rela_test-some b i applied = rw applied refl

pub is_applied-kind : (b : List ℕ) (i : ℕ) → is_applied b i ≡ true
    → (section_of b i).kind ≡ SHT_RELA
unfolding is_applied
is_applied-kind b i applied =
    let s = section_of b i in
    eqb-true s.kind SHT_RELA (and_parts (s.kind == SHT_RELA) (section_of b s.info).kept applied).0

pub is_applied-kept : (b : List ℕ) (i : ℕ) → is_applied b i ≡ true
    → (section_of b (section_of b i).info).kept ≡ true
unfolding is_applied
is_applied-kept b i applied =
    let s = section_of b i in
    (and_parts (s.kind == SHT_RELA) (section_of b s.info).kept applied).1

-- one more number
pub range_more : (n : ℕ) → range_with_len 0 (n + 1) ≡ range_with_len 0 n ++ n ∷ []
range_more n =
    sym (map-id (range_with_len 0 (n + 1)))
    ∙ map-range_with_len_more (λ (x : ℕ). x) 0 n n (omega arith)
    ∙ ap (λ (l : List ℕ). l ++ n ∷ []) (map-id (range_with_len 0 n))

-- the places up to one more section
pub places-more : (b : List ℕ) (n : ℕ)
    → flat_map (section_places b) (range_with_len 0 (n + 1))
    ≡ flat_map (section_places b) (range_with_len 0 n) ++ section_places b n
places-more b n =
    rw (range_more n)
    (flat_map-append (section_places b) (range_with_len 0 n) (n ∷ []) ∙ rw append-nil refl)

-- a type of which some width is known
IsKnown-some : (kind : ℕ) → is_none (width kind) ≡ false → IsKnown kind
IsKnown-some kind some =
    elim (width kind) as (λ w. is_none w ≡ false → IsSome w)
    [ None ↦ λ none. absurd (cc) | Some n ↦ λ _. refl ] some

-- what the tests of a place in its section say
record IsPassed (count : ℕ) (unkept : Bool) (room : ℕ) (p : RelaPlace) : Type 0 where
  symbol : p.symbol < count
  known : IsKnown p.kind
  bytes : 0 < place_width p → (p.offset + place_width p ≤ room) × (unkept ≡ false)

place_test-passed : (count : ℕ) (unkept : Bool) (room : ℕ) (p : RelaPlace)
    → place_test count unkept room p ≡ None → IsPassed count unkept room p
unfolding place_test is_bad_place
place_test-passed count unkept room p passed =
    let unknown = nat_le count p.symbol in
    let untyped = is_none (width p.kind) in
    let bad = is_bad_place unkept room p in
    let one = first-parts (fault_if unknown (BadRela p.section p.entry)) _ passed in
    let two = first-parts (fault_if untyped (UnknownType p.section p.entry p.kind)) _ one.1 in
    let three
    = first-parts (fault_if (not (p.kind == R_X86_64_NONE) && bad) (BadRela p.section p.entry))
    [] two.1 in
    record {
      symbol = leb-false count p.symbol (fault_if-none unknown (BadRela p.section p.entry) one.0);
      known
          = IsKnown-some p.kind
          (fault_if-none untyped (UnknownType p.section p.entry p.kind) two.0);
      bytes
          = λ some. elim
          (and_cases (not (p.kind == R_X86_64_NONE)) bad
          (fault_if-none _ (BadRela p.section p.entry) three.0)) [
            | inl none ↦
                let kind
                = eqb-true p.kind R_X86_64_NONE (not-false (p.kind == R_X86_64_NONE) none) in
                let empty = rw kind at some in
                absurd (omega arith)
            | inr good ↦
                let parts = or_parts (nat_lt room (p.offset + place_width p)) unkept good in
                (ltb-false room (p.offset + place_width p) parts.0, parts.1)
          ];
    }

-- a place that passed its tests has room in its section
pub entry_test-room : (b : List ℕ) (i j : ℕ) → entry_test b i j ≡ None
    → 0 < place_width (place_of b i j)
    → (place_of b i j).offset + place_width (place_of b i j)
    ≤ room_in (section_of b (section_of b i).info)
entry_test-room b i j passed some =
    ((place_test-passed (length (symbols_of b))
    (is_unkept (sections_of b) (symbols_of b) (place_of b i j).symbol)
    (room_in (section_of b (section_of b i).info)) (place_of b i j) passed).bytes some).0

-- a section with room has bytes, and all of them
has_room : (s : Section) (n : ℕ) → 0 < n → n ≤ room_in s → (n ≤ s.size) × (s.kind ≢ SHT_NOBITS)
has_room s n some fits = elim (cases_Bool (s.kind == SHT_NOBITS)) [
  | inl absent ↦ let none : n ≤ 0 = rw absent at fits in absurd (omega arith)
  | inr there ↦ (rw there at fits, eqb-false s.kind SHT_NOBITS there)
]

-- a place of an applied section that passed its tests
pub IsInSection-place : (b : List ℕ) (i j : ℕ) → HasTable b → AllInFile b → is_applied b i ≡ true
    → (section_of b i).info < section_count b → entry_test b i j ≡ None
    → IsInSection b (place_of b i j)
unfolding place_in
IsInSection-place b i j has within applied target passed =
    let t = (section_of b i).info in
    let said
    = place_test-passed (length (symbols_of b))
    (is_unkept (sections_of b) (symbols_of b) (place_of b i j).symbol)
    (room_in (section_of b t)) (place_of b i j) passed in
    let room
    = λ (some : 0 < place_width (place_of b i j)). has_room (section_of b t)
    ((place_of b i j).offset + place_width (place_of b i j)) (omega arith)
    (said.bytes some).0 in
    let few = has.count in
    let kept = is_applied-kept b i applied in
    record {
      known = said.known;
      target = target;
      near = omega arith;
      symbol = said.symbol;
      kept = kept;
      bytes = λ some. (room some).1;
      within = λ some. (room some).0;
      in_file = λ some.
          let fits = (room some).0 in
          let inside
          = section_of-within b t target within (has_content-kept b t kept (room some).1) in
          omega arith;
      linked = λ some. (said.bytes some).1;
    }

-- the places of the section i, where they passed their tests
All-section_places : (b : List ℕ) (i : ℕ) → HasTable b → AllInFile b → TablesFit b
    → i < section_count b → rela_test b i ≡ None → All (IsInSection b) (section_places b i)
All-section_places b i has within fit less passed = elim (cases_Bool (is_applied b i)) [
  | inl applied ↦
      rw (section_places-some b i applied)
      (All-map (IsInSection b) (place_of b i) (range_with_len 0 (entries (contents b i)))
      (All-range (λ j. IsInSection b (place_of b i j)) (entries (contents b i))
      (λ j below. IsInSection-place b i j has within applied
      (fit.targets i less (is_applied-kind b i applied))
      (each-none (entries (contents b i)) (entry_test b i)
      (sym (rela_test-some b i applied) ∙ passed) j below))))
  | inr unapplied ↦ rw (section_places-none b i unapplied) (All-nil (IsInSection b))
]

places_below : (b : List ℕ) (n : ℕ) → ((i : ℕ) → i < n → All (IsInSection b) (section_places b i))
    → All (IsInSection b) (flat_map (section_places b) (range_with_len 0 n))
places_below b zero inside = All-nil (IsInSection b)
places_below b (suc n) inside =
    let one_more : n + 1 ≡ suc n = omega arith in
    subst (λ m. All (IsInSection b) (flat_map (section_places b) (range_with_len 0 m))) one_more
    (rw (places-more b n) (All-append (IsInSection b)
    (flat_map (section_places b) (range_with_len 0 n)) (section_places b n)
    (places_below b n (λ i less. inside i (omega arith))) (inside n (omega arith))))

-- the places of a file, where they passed their tests
pub All-places_of : (b : List ℕ) → HasTable b → AllInFile b → TablesFit b
    → first (each (section_count b) (rela_test b)) ≡ None → All (IsInSection b) (places_of b)
unfolding places_of
All-places_of b has within fit passed =
    places_below b (section_count b)
    (λ i less. All-section_places b i has within fit less
    (each-none (section_count b) (rela_test b) passed i less))

-- whether the symbol k lies in a section that isn't kept
pub is_unkept-flag : (sections : List Section) (symbols : List Symbol) (k : ℕ)
    → get_or (unkept_flags sections symbols) k false ≡ is_unkept sections symbols k
unfolding is_unkept
is_unkept-flag sections [] k = refl
is_unkept-flag sections (s ∷ symbols) zero = refl
is_unkept-flag sections (s ∷ symbols) (suc k) = is_unkept-flag sections symbols k
