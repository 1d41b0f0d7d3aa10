-- The places of one target, from table to table.
use Rattle.std.proofs.Common.{◌≡◌, ℕ, zero, suc, ◌+◌, ◌-◌, ◌<◌, ◌≤◌, ◌==◌, ◌&&◌, nat_lt, nat_le}
use Rattle.std.proofs.Common.{true, false, cond, List, [], ◌∷◌, ◌++◌, map, None, Some}
use Rattle.std.proofs.Common.{refl, sym, ap, ◌∙◌, inl, inr, arith}
use Rattle.std.specs.Prelude.{All, option_map}
use Rattle.std.specs.List.{flat_map, range_with_len}
use Rattle.std.proofs.lemmas.Bool.{and_parts, cases_Bool, eq-eqb, eqb-true, le-ltb, leb-true}
use Rattle.std.proofs.lemmas.Bool.{lt-ltb, ltb-true, ne_eqb}
use Rattle.std.proofs.lemmas.List.Elements.{All-map}
use Rattle.std.proofs.lemmas.List.Sums.{sum_by-append, sum_by_push}
use Rattle.elf_object.specs.declared.place.RelaPlace.{RelaPlace}
use Rattle.elf_object.specs.declared.fault.ObjectFault.TheVariants.{OverlappingPlaces}
use Rattle.elf_sections.specs.Shape.{contents}
use Rattle.elf_sections.specs.Sections.{section_of}
use Rattle.elf_object.specs.Symbols.{entries}
use Rattle.elf_object.specs.Inner.{HoldsPlacesOf}
use Rattle.elf_object.specs.Overlap.{changes_at, count_between, is_between}
use Rattle.elf_object.specs.Places.{covers, is_applied, is_shared, overlap_test, place_in, place_of}
use Rattle.elf_object.specs.Places.{place_width, places_of, section_places}
use Rattle.elf_object.proofs.Inside.{IsInSection}
use Rattle.elf_object.proofs.OverlapLemmas.{count_by-member, count_by-none}
use Rattle.elf_object.proofs.PlaceLemmas.{places-more, section_places-none, section_places-some}
use Rattle.elf_object.proofs.TableLemmas.{position-no_number, position-number}
use Rattle.elf_object.proofs.TestLemmas.{All-range}

-- the places of the sections below n
abbrev pub places_up_to : List ℕ → ℕ → List RelaPlace
places_up_to b n = flat_map (section_places b) (range_with_len 0 n)

-- a place of a section changes no byte of another
covers-apart : (t x : ℕ) (p : RelaPlace) → (p.target ≡ t → ⊥) → covers t x p ≡ false
unfolding covers
covers-apart t x p apart = rw (ne_eqb p.target t apart) refl

covers-here : (t x : ℕ) (p : RelaPlace) → p.target ≡ t
    → covers t x p ≡ is_between p.offset (p.offset + place_width p) x
unfolding covers
covers-here t x p here = rw (eq-eqb p.target t here) refl

-- one more place of a section
pub changes_at-push : (t x : ℕ) (places : List RelaPlace) (p : RelaPlace) → p.target ≡ t
    → changes_at t (places ++ p ∷ []) x
    ≡ changes_at t places x + count_between p.offset (p.offset + place_width p) x
changes_at-push t x places p here =
    sum_by_push (λ q. cond (covers t x q) 1 0) places p
    ∙ ap (λ b. changes_at t places x + cond b 1 0) (covers-here t x p here)

pub place_of-target : (b : List ℕ) (i j : ℕ) → (place_of b i j).target ≡ (section_of b i).info
unfolding place_in
place_of-target b i j = refl

-- the places of a section that doesn't hold those of the section t
section-apart : (b : List ℕ) (t i x : ℕ) → (HoldsPlacesOf b t i → ⊥)
    → changes_at t (section_places b i) x ≡ 0
section-apart b t i x apart = elim (cases_Bool (is_applied b i)) [
  | inl applied ↦
      let other : (section_of b i).info ≡ t → ⊥
      = λ target. apart (record { applied = applied; target = target }) in
      rw (section_places-some b i applied)
      (count_by-none (covers t x) (λ p. p.target ≡ (section_of b i).info)
      (λ p is. covers-apart t x p (λ target. other (sym is ∙ target)))
      (map (place_of b i) (range_with_len 0 (entries (contents b i))))
      (All-map (λ p. p.target ≡ (section_of b i).info) (place_of b i)
      (range_with_len 0 (entries (contents b i)))
      (All-range (λ j. (place_of b i j).target ≡ (section_of b i).info) (entries (contents b i))
      (λ j below. place_of-target b i j))))
  | inr unapplied ↦ rw (section_places-none b i unapplied) refl
]

-- sections that don't hold places of the section t are passed over
up_to-more : (b : List ℕ) (t x n k : ℕ)
    → ((j : ℕ) → n ≤ j → j < n + k → HoldsPlacesOf b t j → ⊥)
    → changes_at t (places_up_to b n) x ≡ changes_at t (places_up_to b (n + k)) x
up_to-more b t x n zero apart =
    let same : n ≡ n + zero = omega arith in ap (λ m. changes_at t (places_up_to b m) x) same
up_to-more b t x n (suc k) apart =
    let same : n + k + 1 ≡ n + suc k = omega arith in
    let before = up_to-more b t x n k (λ j low high. apart j low (omega arith)) in
    let none = section-apart b t (n + k) x (apart (n + k) (omega arith) (omega arith)) in
    let more
    = ap (λ l. changes_at t l x) (places-more b (n + k))
    ∙ sum_by-append (λ q. cond (covers t x q) 1 0) (places_up_to b (n + k))
    (section_places b (n + k)) in
    let whole : changes_at t (places_up_to b n) x ≡ changes_at t (places_up_to b (n + k + 1)) x
    = omega (arith, before, none, more) in
    whole ∙ ap (λ m. changes_at t (places_up_to b m) x) same

pub up_to-same : (b : List ℕ) (t n m : ℕ) → n ≤ m
    → ((j : ℕ) → n ≤ j → j < m → HoldsPlacesOf b t j → ⊥) → (x : ℕ)
    → changes_at t (places_up_to b n) x ≡ changes_at t (places_up_to b m) x
up_to-same b t n m le apart x =
    let same : n + (m - n) ≡ m = omega arith in
    up_to-more b t x n (m - n) (λ j low high. apart j low (omega arith))
    ∙ ap (λ k. changes_at t (places_up_to b k) x) same

-- no byte of the section t is changed twice
pub overlap_test-apart : (b : List ℕ) (t : ℕ) → ((x : ℕ) → changes_at t (places_of b) x ≤ 1)
    → overlap_test b t ≡ None
unfolding overlap_test is_shared
overlap_test-apart b t once =
    ap (option_map (λ x. OverlappingPlaces t x))
    (position-no_number (is_shared (places_of b) t) (section_of b t).size
    (λ k less. le-ltb 1 (changes_at t (places_of b) k) (once k)))

-- what is known of a place that changes a byte
covers-within : (t x : ℕ) (p : RelaPlace) → covers t x p ≡ true
    → (p.target ≡ t) × (p.offset ≤ x) × (x < p.offset + place_width p)
unfolding covers
covers-within t x p covered =
    let parts
    = and_parts (p.target == t && nat_le p.offset x) (nat_lt x (p.offset + place_width p)) covered
    in
    let front = and_parts (p.target == t) (nat_le p.offset x) parts.0 in (
      eqb-true p.target t front.0,
      leb-true p.offset x front.1,
      ltb-true x (p.offset + place_width p) parts.1,
    )

-- a byte that is changed lies in its section
changed-within : (b : List ℕ) (t x : ℕ) → All (IsInSection b) (places_of b)
    → 0 < changes_at t (places_of b) x → x < (section_of b t).size
changed-within b t x inside some =
    let member = count_by-member (covers t x) (places_of b) some in
    let p = member.0 in
    let is_inside = member.1 (IsInSection b) inside in
    let at = covers-within t x p member.2 in
    let low = at.1 in
    let high = at.2 in
    let bytes : 0 < place_width p = omega arith in
    let fits = rw at.0 at (is_inside.within bytes) in
    omega arith

-- the least byte of the section t that is changed twice
pub overlap_test-shared : (b : List ℕ) (t x : ℕ) → All (IsInSection b) (places_of b)
    → 1 < changes_at t (places_of b) x → ((k : ℕ) → k < x → changes_at t (places_of b) k ≤ 1)
    → overlap_test b t ≡ Some (OverlappingPlaces t x)
unfolding overlap_test is_shared
overlap_test-shared b t x inside twice before =
    ap (option_map (λ y. OverlappingPlaces t y))
    (position-number (is_shared (places_of b) t) (section_of b t).size x
    (changed-within b t x inside (omega arith))
    (λ k below. le-ltb 1 (changes_at t (places_of b) k) (before k below))
    (lt-ltb 1 (changes_at t (places_of b) x) twice))
