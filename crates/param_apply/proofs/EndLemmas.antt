-- Where strings of an image end.
use Rattle.std.proofs.Common.{◌≡◌, ◌≤◌, ◌<◌, ◌+◌, ◌-◌, ◌==◌, ◌∙◌, ℕ, Bool, true, false, List}
use Rattle.std.proofs.Common.{length}
use Rattle.std.proofs.Common.{Option, Some, None, drop, take, get_or, inl, inr, refl, sym, ap}
use Rattle.std.proofs.Common.{arith}
use Rattle.std.proofs.Common.{Bor}
use Rattle.std.specs.Prelude.{is_none, nat_le, option_copied, option_map, IfNone, IfSome}
use Rattle.std.specs.List.{position}
use Rattle.std.proofs.lemmas.Bool.{cases_lt, leb-false, leb-true}
use Rattle.std.proofs.lemmas.List.{drop_all, get_or-drop, get_or-take, length-drop, length-take}
use Rattle.std.proofs.lemmas.List.Quantifiers.{position-Some}
use Rattle.km_names.specs.Strings.{first_string, string_at}
use Rattle.km_names.proofs.Positions.{position-found}
use Rattle.elf_sections.proofs.StringLemmas.{position-nowhere_is, string_at-cut}

abbrev is_nul : ℕ → Bool
is_nul b = b == 0

-- A NUL at or after a place ends a string there, and no string begins after the last one.
ended-at : (image : List ℕ) (size at : ℕ) (o : Option ℕ) (b : Bool)
    → position is_nul (drop at image) ≡ o → size ≤ length image
    → ((k : ℕ) → k < size → k + 1 ≡ size → is_nul (get_or image k 0) ≡ true)
    → ((k : ℕ) → size ≤ k → k < length image → is_nul (get_or image k 0) ≡ false)
    → nat_le size at ≡ b → is_none o ≡ b
ended-at image size at None true is within last after past = refl
ended-at image size at (Some i) false is within last after past = refl
ended-at image size at None false is within last after past =
    let before : at < size = leb-false size at past in
    let k : ℕ = size - 1 - at in
    let nul : is_nul (get_or image (size - 1) 0) ≡ true
    = last (size - 1) (omega (arith, before)) (omega (arith, before)) in
    let none = position-nowhere_is is_nul (drop at image) k 0 is
    (omega (arith, before, within, length-drop at image)) in
    let here : at + k ≡ size - 1 = omega (arith, before) in
    let other : is_nul (get_or image (size - 1) 0) ≡ false
    = ap (λ (n : ℕ). is_nul (get_or image n 0)) (sym here)
    ∙ ap is_nul (sym (get_or-drop at image k 0)) ∙ none in
    absurd (cc)
ended-at image size at (Some i) true is within last after past =
    let later : size ≤ at = leb-true size at past in
    let found = position-Some is_nul (drop at image) i 0 is in
    let inside : at + i < length image
    = omega (arith, found.0, length-drop at image) in
    let none = after (at + i) (omega (arith, later)) inside in
    let other : is_nul (get_or image (at + i) 0) ≡ true
    = ap is_nul (sym (get_or-drop at image i 0)) ∙ found.1 in
    absurd (cc)

pub strings-end : (image : List ℕ) (size : ℕ) → size ≤ length image
    → ((k : ℕ) → k < size → k + 1 ≡ size → is_nul (get_or image k 0) ≡ true)
    → ((k : ℕ) → size ≤ k → k < length image → is_nul (get_or image k 0) ≡ false)
    → (at : ℕ) → is_none (string_at image at) ≡ nat_le size at
unfolding first_string
strings-end image size within last after at =
    none-map (position is_nul (drop at image)) (λ n. take n (drop at image))
    ∙ ended-at image size at (position is_nul (drop at image)) (nat_le size at) refl within last
    after refl
  where
    none-map : {X Y : Type 0} (o : Option X) (f : X → Y) → is_none (option_map f o) ≡ is_none o
    none-map None f = refl
    none-map (Some x) f = refl

-- A string that isn't among the first bytes has at least as many.
cut-at : (bytes : List ℕ) (n i : ℕ) → position is_nul bytes ≡ Some i
    → position is_nul (take n bytes) ≡ None → n ≤ i
cut-at bytes n i found none = elim (cases_lt i n) [
  | inl later ↦
      let at = position-Some is_nul bytes i 0 found in
      let size = length-take n bytes in
      let same : position is_nul (take n bytes) ≡ Some i
      = position-found is_nul (take n bytes) i 0 (omega (arith, at.0, later, size))
      (λ k less.
      ap is_nul (get_or-take n bytes k 0 (omega (arith, less, later))) ∙ at.2 k less)
      (ap is_nul (get_or-take n bytes i 0 later) ∙ at.1) in
      absurd (cc)
  | inr short ↦ short
]

string-cut-at : (bytes s : List ℕ) (n : ℕ) (o p : Option ℕ) → position is_nul bytes ≡ o
    → position is_nul (take n bytes) ≡ p → option_map (λ i. take i bytes) o ≡ Some s
    → option_map (λ i. take i (take n bytes)) p ≡ None → n ≤ length s
string-cut-at bytes s n None p found cut is none = cc
string-cut-at bytes s n (Some i) (Some j) found cut is none = cc
string-cut-at bytes s n (Some i) None found cut is none =
    let at = position-Some is_nul bytes i 0 found in
    let string : take i bytes ≡ s = cc in
    let long : length s ≡ i = sym (ap length string) ∙ length-take_within bytes i at.0 in
    let past = cut-at bytes n i found cut in
    omega (arith, long, past)
  where
    length-take_within : (xs : List ℕ) (k : ℕ) → k < length xs → length (take k xs) ≡ k
    length-take_within xs k less = omega (arith, less, length-take k xs)

string-cut : (bytes : List ℕ) (n : ℕ) (o : Option (List ℕ)) → first_string bytes ≡ o
    → first_string (take (n + 1) bytes) ≡ None → IfSome o (λ s. n < length s)
unfolding first_string
string-cut bytes n None is none = tt
string-cut bytes n (Some s) is none =
    let long = string-cut-at bytes s (n + 1) (position is_nul bytes)
    (position is_nul (take (n + 1) bytes)) refl refl is none in
    omega (arith, long)

-- The string that bytes begin with, by a search in the first of them.
pub string-read : (bytes : List ℕ) (n : ℕ) (r : Option (Bor (List ℕ)))
    → option_copied r ≡ first_string (take n bytes)
    → IfSome r (λ s. first_string bytes ≡ Some s.now)
string-read bytes n None is = tt
string-read bytes n (Some s) is = string_at-cut bytes n 0 s.now (sym is)

pub string-longer : (bytes : List ℕ) (n : ℕ) (r : Option (Bor (List ℕ)))
    → option_copied r ≡ first_string (take (n + 1) bytes)
    → IfNone r (IfSome (first_string bytes) (λ s. n < length s))
string-longer bytes n None is = string-cut bytes n (first_string bytes) refl (sym is)
string-longer bytes n (Some s) is = tt

pub string-past : (image : List ℕ) (at : ℕ) → length image ≤ at → string_at image at ≡ None
unfolding first_string
string-past image at past = ap first_string (drop_all at image past)
