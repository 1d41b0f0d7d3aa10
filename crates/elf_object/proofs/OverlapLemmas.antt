-- The test of overlaps, by the numbers of bytes that are counted twice.
use Rattle.std.specs.Prelude.{option_map}
use Rattle.km_names.specs.Limit.{file_limit}
use Rattle.elf_object.proofs.SpanLemmas.{is_between-from, is_between-true}
use Rattle.std.proofs.Common.{◌≡◌, ℕ, ◌+◌, ◌*◌, ◌^◌, ◌<◌, ◌≤◌, ◌&&◌, ◌==◌, nat_lt, nat_le, Bool}
use Rattle.std.proofs.Common.{true, false, cond, List, [], ◌∷◌, length, All, None, refl, sym}
use Rattle.std.proofs.Common.{ap, ◌∙◌, inl, inr, arith}
use Rattle.std.proofs.lemmas.Bool.{cases_Bool, cases_lt, lt-ltb, le-ltb, ltb-true, and_parts}
use Rattle.std.proofs.lemmas.Bool.{and_from, and_right, both_ways, eq-eqb, eqb-true, le-leb}
use Rattle.std.proofs.lemmas.Bool.{leb-true, and_left, lt-leb}
use Rattle.std.proofs.lemmas.List.Elements.{All-head, All-tail, All-weaker}
use Rattle.std.proofs.lemmas.List.Sums.{sum_by-cons}
use Rattle.std.specs.List.{count_by}
use Rattle.km_names.specs.First.{first}
use Rattle.elf_object.specs.declared.place.RelaPlace.{RelaPlace}
use Rattle.elf_object.specs.declared.fault.ObjectFault.TheVariants.{OverlappingPlaces}
use Rattle.elf_sections.specs.Shape.{each, section_count}
use Rattle.elf_sections.specs.Sections.{section_of}
use Rattle.elf_object.specs.Places.{covers, is_shared, overlap_test, place_width, places_of}
use Rattle.elf_object.proofs.Inside.{IsInSection}
use Rattle.elf_object.specs.Overlap.{IsNear, count_at, is_between, place_end, place_start}
use Rattle.elf_sections.proofs.TestLemmas.{each-passed}
use Rattle.elf_object.proofs.TableLemmas.{position-no_number}

-- a place of the file is near
pub IsNear-inside : (b : List ℕ) (p : RelaPlace) → length b ≤ file_limit → IsInSection b p
    → IsNear p
IsNear-inside b p small inside = λ bytes.
    let within = inside.within bytes in
    let size = inside.in_file bytes in
    (inside.near, omega arith)

-- the byte at x of a section, and its number
covers-number : (t x w : ℕ) (p : RelaPlace) → x < 2 ^ 32 → (0 < w → p.offset + w ≤ 2 ^ 32)
    → is_between (p.target * 2 ^ 32 + p.offset) (p.target * 2 ^ 32 + p.offset + w) (t * 2 ^ 32 + x)
    ≡ (p.target == t && nat_le p.offset x && nat_lt x (p.offset + w))
covers-number t x w p less near =
    let start = p.target * 2 ^ 32 + p.offset in
    let a = t * 2 ^ 32 + x in
    let both = p.target == t && nat_le p.offset x in
    elim (cases_Bool (both && nat_lt x (p.offset + w))) [
      | inl covered ↦
          let parts = and_parts both (nat_lt x (p.offset + w)) covered in
          let front = and_parts (p.target == t) (nat_le p.offset x) parts.0 in
          let target = eqb-true p.target t front.0 in
          let low = leb-true p.offset x front.1 in
          let high = ltb-true x (p.offset + w) parts.1 in
          is_between-from start (start + w) a (omega arith) (omega arith) ∙ sym covered
      | inr other ↦ elim (cases_Bool (is_between start (start + w) a)) [
        | inl between ↦
            let numbers = is_between-true start (start + w) a between in
            let bytes : 0 < w = omega arith in
            let inside = near bytes in
            let target : p.target ≡ t = omega arith in
            let low : p.offset ≤ x = omega arith in
            let high : x < p.offset + w = omega arith in
            absurd (both_ways (both && nat_lt x (p.offset + w)) other
            (and_from both (nat_lt x (p.offset + w))
            (and_from (p.target == t) (nat_le p.offset x) (eq-eqb p.target t target)
            (le-leb p.offset x low)) (lt-ltb x (p.offset + w) high)))
        | inr apart ↦ apart ∙ sym other
      ]
    ]

pub is_between-covers : (t x : ℕ) (p : RelaPlace) → x < 2 ^ 32 → IsNear p
    → is_between (place_start p) (place_end p) (t * 2 ^ 32 + x) ≡ covers t x p
unfolding covers
is_between-covers t x p less near =
    covers-number t x (place_width p) p less (λ bytes. (near bytes).1)

-- no place reaches past the 2^32 bytes of its section
pub covers-far : (t x : ℕ) (p : RelaPlace) → 2 ^ 32 ≤ x → IsNear p → covers t x p ≡ false
unfolding covers
covers-far t x p far near =
    elim (cases_Bool (nat_lt x (p.offset + place_width p))) [
      | inl below ↦
          let high = ltb-true x (p.offset + place_width p) below in
          elim (cases_lt 0 (place_width p)) [
            | inl bytes ↦ let inside = (near bytes).1 in absurd (omega arith)
            | inr none ↦
                and_left (p.target == t && nat_le p.offset x) (nat_lt x (p.offset + place_width p))
                (and_right (p.target == t) (nat_le p.offset x) (lt-leb p.offset x (omega arith)))
          ]
      | inr past ↦ rw past (and_right (p.target == t && nat_le p.offset x) false refl)
    ]

-- counts of the same items
count_by-same : {X : Type 0} (p q : X → Bool) (P : X → Type 0) → ((x : X) → P x → p x ≡ q x)
    → (xs : List X) → All P xs → count_by p xs ≡ count_by q xs
count_by-same p q P same [] all = refl
count_by-same p q P same (x ∷ xs) all =
    let here = same x (All-head P x xs all) in
    let rest = count_by-same p q P same xs (All-tail P x xs all) in
    sum_by-cons (λ y. cond (p y) 1 0) x xs
    ∙ rw (here, rest) (sym (sum_by-cons (λ y. cond (q y) 1 0) x xs))

pub count_by-none : {X : Type 0} (p : X → Bool) (P : X → Type 0) → ((x : X) → P x → p x ≡ false)
    → (xs : List X) → All P xs → count_by p xs ≡ 0
count_by-none p P none [] all = refl
count_by-none p P none (x ∷ xs) all =
    let here = none x (All-head P x xs all) in
    let rest = count_by-none p P none xs (All-tail P x xs all) in
    sum_by-cons (λ y. cond (p y) 1 0) x xs ∙ rw (here, rest) refl

-- an item that is counted
pub count_by-member : {X : Type 0} (p : X → Bool) (xs : List X) → 0 < count_by p xs
    → (x : X) × ((P : X → Type 0) → All P xs → P x) × (p x ≡ true)
count_by-member p [] some = absurd (omega arith)
count_by-member p (x ∷ xs) some = elim (cases_Bool (p x)) [
  | inl here ↦ (x, λ P all. All-head P x xs all, here)
  | inr other ↦
      let count = sum_by-cons (λ y. cond (p y) 1 0) x xs in
      let zero_here : cond {A = ℕ} (p x) 1 0 ≡ 0 = rw other refl in
      let rest : 0 < count_by p xs = omega arith in
      let found = count_by-member p xs rest in
      (found.0, λ P all. found.1 P (All-tail P x xs all), found.2)
]

-- a file whose places lie in their sections
module _ (b : List ℕ) (small : length b ≤ file_limit) (inside : All (IsInSection b) (places_of b))
  where
    near_places : All IsNear (places_of b)
    near_places
        = All-weaker (IsInSection b) IsNear (λ p. IsNear-inside b p small) (places_of b) inside

    -- a byte of a section is shared where its number is counted twice
    is_shared-number : (t x : ℕ) → x < 2 ^ 32
        → is_shared (places_of b) t x
        ≡ nat_lt 1 (count_at place_start place_end (t * 2 ^ 32 + x) (places_of b))
    unfolding is_shared
    is_shared-number t x less =
        ap (nat_lt 1) (sym (count_by-same
        (λ p. is_between (place_start p) (place_end p) (t * 2 ^ 32 + x)) (covers t x) IsNear
        (λ p near. is_between-covers t x p less near) (places_of b) near_places))

    is_shared-far : (t x : ℕ) → 2 ^ 32 ≤ x → is_shared (places_of b) t x ≡ false
    unfolding is_shared
    is_shared-far t x far =
        ap (nat_lt 1)
        (count_by-none (covers t x) IsNear (λ p near. covers-far t x p far near) (places_of b)
        near_places)

    -- where its number is counted once at most, a byte isn't shared
    is_shared-once : (t x : ℕ)
        → (x < 2 ^ 32 → count_at place_start place_end (t * 2 ^ 32 + x) (places_of b) ≤ 1)
        → is_shared (places_of b) t x ≡ false
    is_shared-once t x once = elim (cases_lt x (2 ^ 32)) [
      | inl less ↦ is_shared-number t x less
          ∙ le-ltb 1 (count_at place_start place_end (t * 2 ^ 32 + x) (places_of b)) (once less)
      | inr far ↦ is_shared-far t x far
    ]

    -- no byte is shared in the section i
    overlap_test-none : (i : ℕ)
        → ((x : ℕ) → x < 2 ^ 32 → count_at place_start place_end (i * 2 ^ 32 + x) (places_of b) ≤ 1)
        → overlap_test b i ≡ None
    unfolding overlap_test
    overlap_test-none i once =
        ap (option_map (λ x. OverlappingPlaces i x))
        (position-no_number (is_shared (places_of b) i) (section_of b i).size
        (λ k less. is_shared-once i k (λ near. once k near)))

    -- no number is counted twice
    pub overlaps-none : ((a : ℕ) → count_at place_start place_end a (places_of b) ≤ 1)
        → first (each (section_count b) (overlap_test b)) ≡ None
    overlaps-none once =
        each-passed (section_count b) (overlap_test b)
        (λ i less. overlap_test-none i (λ x near. once (i * 2 ^ 32 + x)))
