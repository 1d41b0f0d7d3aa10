-- Strings of a table that was cut off.
use Rattle.std.proofs.Common.{◌≡◌, ℕ, ◌+◌, ◌-◌, ◌<◌, ◌≤◌, ◌==◌, Bool, false, List, [], length, take}
use Rattle.std.proofs.Common.{drop, get_or, Option, Some, None, inl, inr, refl, sym, ◌∙◌, arith}
use Rattle.std.specs.List.{position, position_or_len}
use Rattle.std.proofs.lemmas.Bool.{cases_lt, lt-ltb}
use Rattle.std.proofs.lemmas.List.{drop-take, drop_all, get_or-drop, get_or-take, length-drop}
use Rattle.std.proofs.lemmas.List.{length-take, take-append-drop, take-append-le}
use Rattle.std.proofs.lemmas.List.Quantifiers.{position-Some}
use Rattle.std.proofs.lemmas.List.Sums.{fails_before_first}
use Rattle.km_names.specs.Strings.{first_string, string_at}
use Rattle.km_names.proofs.Positions.{position-found, position-none}
use Rattle.elf_sections.specs.Strings.{HasStrings}

abbrev is_nul : ℕ → Bool
is_nul b = b == 0

-- a list that passes nowhere
pub position-nowhere_is : {X : Type 0} (p : X → Bool) (xs : List X) (k : ℕ) (d : X)
    → position p xs ≡ None → k < length xs → p (get_or xs k d) ≡ false
position-nowhere_is p xs k d none less = elim (cases_lt (position_or_len p xs) (length xs)) [
  | inl within ↦ let some : Some (position_or_len p xs) ≡ None
      = rw (lt-ltb (position_or_len p xs) (length xs) within) at none in absurd (cc)
  | inr past ↦ fails_before_first p xs k d (omega arith)
]

-- the first list is what the second one begins with
record IsFront (front whole : List ℕ) : Type 0 where
  short : length front ≤ length whole
  same : (k : ℕ) → k < length front → get_or front k 0 ≡ get_or whole k 0
  takes : (i : ℕ) → i ≤ length front → take i front ≡ take i whole

IsFront-take : (n : ℕ) (whole : List ℕ) → IsFront (take n whole) whole
IsFront-take n whole =
    let size = length-take n whole in
    record {
      short = omega arith;
      same = λ k less. get_or-take n whole k 0 (omega arith);
      takes = λ i le.
          let cut = take-append-drop n whole in
          sym (take-append-le i (take n whole) (drop n whole) le) ∙ rw cut refl;
    }

IsFront-nil : (whole : List ℕ) → IsFront [] whole
IsFront-nil whole = record {
  short = omega arith;
  same = λ k less. absurd (omega arith);
  takes = λ i le. let none : i ≡ 0 = omega arith in rw none refl;
}

-- what is left of a table that was cut off, from a place on
IsFront-cut : (table : List ℕ) (n at : ℕ) → IsFront (drop at (take n table)) (drop at table)
IsFront-cut table n at = elim (cases_lt n at) [
  | inl past ↦
      let size = length-take n table in
      rw (drop_all at (take n table) (omega arith)) (IsFront-nil (drop at table))
  | inr before ↦
      let sum : n ≡ at + (n - at) = omega arith in
      rw (sum, drop-take at (n - at) table) (IsFront-take (n - at) (drop at table))
]

first_string-front_at : (front whole : List ℕ) (o : Option ℕ) → position is_nul front ≡ o
    → IsFront front whole → (s : List ℕ) → first_string front ≡ Some s → first_string whole ≡ Some s
unfolding first_string
first_string-front_at front whole None is cut s found =
    let none : None ≡ Some s = rw is at found in absurd (cc)
first_string-front_at front whole (Some i) is cut s found =
    let at = position-Some is_nul front i 0 is in
    let short = cut.short in
    let same
    = position-found is_nul whole i 0 (omega (arith, at.0))
    (λ k less. rw (← cut.same k (omega (arith, at.0))) (at.2 k less))
    (rw (← cut.same i at.0) at.1) in
    let taken = cut.takes i (omega (arith, at.0)) in
    rw (same, ← taken) (rw is at found)

first_string-same_at : (front whole : List ℕ) (o : Option ℕ) → position is_nul front ≡ o
    → IsFront front whole
    → ((k : ℕ) → length front ≤ k → k < length whole → is_nul (get_or whole k 0) ≡ false)
    → first_string front ≡ first_string whole
unfolding first_string
first_string-same_at front whole (Some i) is cut past =
    let found : first_string front ≡ Some (take i front) = rw is refl in
    found ∙ sym (first_string-front_at front whole (Some i) is cut (take i front) found)
first_string-same_at front whole None is cut past =
    let none = position-none is_nul whole 0 (λ k less. elim (cases_lt k (length front)) [
      | inl within ↦ rw (← cut.same k within) (position-nowhere_is is_nul front k 0 is within)
      | inr after ↦ past k after less
    ]) in
    rw (is, none) refl

-- a string of a table that was cut off is one of the whole table
pub string_at-cut : (table : List ℕ) (n at : ℕ) (s : List ℕ) → string_at (take n table) at ≡ Some s
    → string_at table at ≡ Some s
string_at-cut table n at s found =
    first_string-front_at (drop at (take n table)) (drop at table)
    (position is_nul (drop at (take n table))) refl (IsFront-cut table n at) s found

-- a table that was cut off after its last NUL has the same strings
pub string_at-same : (table : List ℕ) (n : ℕ)
    → ((k : ℕ) → n ≤ k → k < length table → is_nul (get_or table k 0) ≡ false) → (at : ℕ)
    → string_at (take n table) at ≡ string_at table at
string_at-same table n past at =
    let size = length-take n table in
    let front = length-drop at (take n table) in
    let whole = length-drop at table in
    first_string-same_at (drop at (take n table)) (drop at table)
    (position is_nul (drop at (take n table))) refl (IsFront-cut table n at)
    (λ k after less. rw (get_or-drop at table k 0) (past (at + k) (omega arith) (omega arith)))

-- what is said of a string of a table under another that has the same strings
pub HasStrings-cut : (table : List ℕ) (n : ℕ)
    → ((k : ℕ) → n ≤ k → k < length table → is_nul (get_or table k 0) ≡ false)
    → HasStrings table (take n table)
HasStrings-cut table n past = record { strings = string_at-same table n past }
