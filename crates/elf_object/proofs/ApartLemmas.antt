-- Places that passed the test of overlaps share no byte.
use Rattle.std.proofs.Common.{◌≡◌, ℕ, zero, suc, ◌+◌, ◌<◌, ◌≤◌, ◌==◌, ◌&&◌, nat_lt, nat_le, Bool}
use Rattle.std.proofs.Common.{true, cond, List, [], ◌∷◌, length, get_or, Option, Some, None, refl}
use Rattle.std.proofs.Common.{sym, arith}
use Rattle.std.specs.Prelude.{All, AllPairs, option_map}
use Rattle.std.specs.List.{count_by, position, range_with_len}
use Rattle.std.proofs.Math.Nat.{zero-add}
use Rattle.std.proofs.lemmas.Bool.{and_from, eq-eqb, le-leb, lt-ltb, ltb-false}
use Rattle.std.proofs.lemmas.List.Elements.{All-get_or}
use Rattle.std.proofs.lemmas.List.FromFn.{get_or-range_with_len, length-range_with_len}
use Rattle.std.proofs.lemmas.List.Sums.{sum_by-cons}
use Rattle.km_names.specs.First.{first}
use Rattle.elf_object.specs.declared.place.RelaPlace.{RelaPlace}
use Rattle.elf_object.specs.declared.fault.ObjectFault.TheVariants.{OverlappingPlaces}
use Rattle.elf_sections.specs.Shape.{each, section_count}
use Rattle.elf_sections.specs.Sections.{section_of}
use Rattle.elf_object.specs.Places.{covers, is_shared, overlap_test, place_width, places_of}
use Rattle.elf_object.specs.Object.{AreApart, Changes}
use Rattle.elf_object.proofs.Inside.{IsInSection}
use Rattle.elf_sections.proofs.StringLemmas.{position-nowhere_is}
use Rattle.elf_object.proofs.TestLemmas.{each-none}

-- an item that passes is counted
count_by-one : {X : Type 0} (p : X → Bool) (xs : List X) (j : ℕ) (d : X) → j < length xs
    → p (get_or xs j d) ≡ true → 0 < count_by p xs
count_by-one p [] j d less here = absurd (omega arith)
count_by-one p (x ∷ xs) zero d less here =
    let count = sum_by-cons (λ y. cond (p y) 1 0) x xs in
    let one : cond {A = ℕ} (p x) 1 0 ≡ 1 = rw here refl in
    omega arith
count_by-one p (x ∷ xs) (suc j) d less here =
    let count = sum_by-cons (λ y. cond (p y) 1 0) x xs in
    let rest = count_by-one p xs j d (omega arith) here in
    omega arith

-- two items that pass are counted
count_by-pair : {X : Type 0} (p : X → Bool) (xs : List X) (i j : ℕ) (d : X) → i < j → j < length xs
    → p (get_or xs i d) ≡ true → p (get_or xs j d) ≡ true → 1 < count_by p xs
count_by-pair p [] i j d before less here there = absurd (omega arith)
count_by-pair p (x ∷ xs) i zero d before less here there = absurd (omega arith)
count_by-pair p (x ∷ xs) zero (suc j) d before less here there =
    let count = sum_by-cons (λ y. cond (p y) 1 0) x xs in
    let one : cond {A = ℕ} (p x) 1 0 ≡ 1 = rw here refl in
    let rest = count_by-one p xs j d (omega arith) there in
    omega arith
count_by-pair p (x ∷ xs) (suc i) (suc j) d before less here there =
    let count = sum_by-cons (λ y. cond (p y) 1 0) x xs in
    let rest = count_by-pair p xs i j d (omega arith) (omega arith) here there in
    omega arith

option_map-none : {X Y : Type 0} (f : X → Y) (o : Option X) → option_map f o ≡ None → o ≡ None
option_map-none f None none = refl
option_map-none f (Some x) none = cc

-- no byte of a section that passed its test is changed twice
overlap_test-once : (b : List ℕ) (i : ℕ) → overlap_test b i ≡ None → (x : ℕ)
    → x < (section_of b i).size → count_by (covers i x) (places_of b) ≤ 1
unfolding overlap_test is_shared
overlap_test-once b i passed x less =
    let size = (section_of b i).size in
    let shared = is_shared (places_of b) i in
    let none
    = option_map-none (λ y. OverlappingPlaces i y) (position shared (range_with_len 0 size))
    passed in
    let length_is = length-range_with_len 0 size in
    let apart = position-nowhere_is shared (range_with_len 0 size) x 0 none (omega arith) in
    ltb-false 1 (count_by (covers i x) (places_of b))
    (rw (get_or-range_with_len 0 size x 0 less, zero-add x) at apart)

covers-changes : (t x : ℕ) (p : RelaPlace) → p.target ≡ t → Changes p x → covers t x p ≡ true
unfolding covers
covers-changes t x p target changes =
    and_from (p.target == t && nat_le p.offset x) (nat_lt x (p.offset + place_width p))
    (and_from (p.target == t) (nat_le p.offset x) (eq-eqb p.target t target)
    (le-leb p.offset x changes.0))
    (lt-ltb x (p.offset + place_width p) changes.1)

-- the places of a file that passed the test
pub AllPairs-places_of : (b : List ℕ) → All (IsInSection b) (places_of b)
    → first (each (section_count b) (overlap_test b)) ≡ None → AllPairs AreApart (places_of b)
AllPairs-places_of b inside passed = λ i j d before less. λ same x one two.
    let places = places_of b in
    let p = get_or places i d in
    let q = get_or places j d in
    let is_in : IsInSection b p = All-get_or (IsInSection b) places i d (omega arith) inside in
    let low = one.0 in
    let high = one.1 in
    let some : 0 < place_width p = omega arith in
    let size = is_in.within some in
    let test = each-none (section_count b) (overlap_test b) passed p.target is_in.target in
    let once = overlap_test-once b p.target test x (omega arith) in
    let twice
    = count_by-pair (covers p.target x) places i j d before less
    (covers-changes p.target x p refl one) (covers-changes p.target x q (sym same) two) in
    omega arith
