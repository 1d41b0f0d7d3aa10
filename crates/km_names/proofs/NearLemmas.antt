-- The first NUL among the first 32 bytes, by the mask of those that are NUL.
use Rattle.std.proofs.Common.{◌≡◌, sym, ap, ◌∙◌, ⊎_elim, refl, ℕ, ◌+◌, ◌*◌, ◌<◌, ◌≤◌, ◌==◌, Bool}
use Rattle.std.proofs.Common.{true, false, not, cond, List, [], ◌∷◌, length, map, get_or, None, Some}
use Rattle.std.proofs.Common.{arith}
use Rattle.std.proofs.lemmas.Bool.{cases_lt, true≢false}
use Rattle.std.proofs.lemmas.List.Sums.{prefix_len-le-length}
use Rattle.std.proofs.lemmas.Simd.{length-chunk, trailing_mask_l, run_in_chunk_le}
use Rattle.std.proofs.lemmas.Simd.{run_in_chunk_fails, run_in_chunk_stops, none_from_empty_mask}
use Rattle.std.specs.List.{prefix_len}
use lib.Lanes.{chunk, mask_l}
use lib.Count.{count_trailing_zeros}
use Rattle.memchr.specs.Find.{IsFirst, IsFirstByte, Passes, is_byte}

abbrev is_nul : ℕ → Bool
is_nul b = b == 0

none_counts : (b : Bool) (n l m : ℕ) → n ≤ l → cond (not b) (1 + n) 0 ≡ 1 + l → (n ≡ l → m ≡ 0)
    → cond b 1 0 + 2 * m ≡ 0
none_counts true n l m le e ih = let no : ⊥ = omega arith in absurd no
none_counts false n l m le e ih = let z = ih (omega arith) in omega arith

none_set : (xs : List ℕ) → prefix_len (λ x. not (is_nul x)) xs ≡ length xs
    → mask_l (map is_nul xs) ≡ 0
none_set [] e = refl
none_set (x ∷ xs) e =
    none_counts (is_nul x) _ (length xs) _ (prefix_len-le-length (λ y. not (is_nul y)) xs)
    (omega arith) (none_set xs)

pub near_found : (xs : List ℕ) (found place : ℕ) → 32 ≤ length xs
    → found ≡ mask_l (map is_nul (chunk 0 32 xs)) → (found ≡ 0 → ⊥)
    → place ≡ count_trailing_zeros 64 found
    → IsFirst (Passes (is_byte 0) xs) 0 32 (Some place)
near_found xs found place room is some counted =
    let c = chunk 0 32 xs in
    let long = length-chunk 0 32 xs room in
    let run : place ≡ prefix_len (λ x. not (is_nul x)) c
    = counted ∙ ap (count_trailing_zeros 64) is
    ∙ trailing_mask_l is_nul 64 c (omega (arith, long)) (omega (arith, some, is)) in
    let high : place ≤ 32 = run_in_chunk_le is_nul xs 0 32 place 0 room run in
    let here : place ≡ 0 + place = omega arith in
    let short : place < 32
    = ⊎_elim (λ lt. lt)
    (λ ge. absurd (some (is ∙ none_set c (omega (arith, run, long, ge, high)))))
    (cases_lt place 32) in (
      record {
        low = omega arith;
        high = short;
        before
            = λ k low lt h. true≢false
            (sym h
            ∙ run_in_chunk_fails is_nul xs 0 32 place 0 room run k low (omega (arith, lt)));
      },
      ap (λ k. is_nul (get_or xs k 0)) here
          ∙ run_in_chunk_stops is_nul xs 0 32 place 0 room run short,
    )

-- it is the first of all
pub near_first : (xs : List ℕ) (place : ℕ) → 32 ≤ length xs
    → IsFirst (Passes (is_byte 0) xs) 0 32 (Some place) → IsFirstByte (is_byte 0) xs (Some place)
near_first xs place room near = (
  record { low = near.0.low; high = omega (arith, near.0.high, room); before = near.0.before },
  near.1,
)

pub near_none : (xs : List ℕ) (found : ℕ) → 32 ≤ length xs
    → found ≡ mask_l (map is_nul (chunk 0 32 xs)) → found ≡ 0
    → IsFirst (Passes (is_byte 0) xs) 0 32 None
near_none xs found room is none =
    λ k low lt h. true≢false
    (sym h ∙ none_from_empty_mask is_nul xs 0 32 0 room (sym is ∙ none) k low (omega (arith, lt)))
