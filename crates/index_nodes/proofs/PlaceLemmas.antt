-- A set of places, with one place more.
use Rattle.std.proofs.Common.{◌≡◌, sym, ap, ◌∙◌, ⊎_elim, ℕ, ◌*◌, ◌/◌, ◌%◌, ◌^◌, ◌<◌, Bool, true}
use Rattle.std.proofs.Common.{◌==◌, ◌||◌, List, length, get_or, arith}
use Rattle.std.proofs.Math.ListN.{set}
use Rattle.std.proofs.lemmas.Bool.{cases_eq, eq-eqb, ne_eqb}
use Rattle.std.proofs.lemmas.List.{get_or-set_same, get_or-set_other}
use Rattle.std.proofs.lemmas.Nat.Bits.{bit_at_set_same, bit_at_set_other}
use Rattle.std.specs.Int.{bit_at, w64}
use Rattle.std.specs.Prelude.{bit_or}

-- whether the words have the bit of a place
abbrev pub has_bit : List ℕ → ℕ → Bool
has_bit words place = bit_at (get_or words (place / 64) 0) (place % 64) == 1

-- the word with the bit of a place
abbrev pub with_bit : ℕ → ℕ → ℕ
with_bit word place = bit_or word (1 * 2 ^ (place % 64) % 2 ^ 64)

other_bit : (a b : ℕ) → (a ≡ b → ⊥) → a / 64 ≡ b / 64 → a % 64 ≡ b % 64 → ⊥
other_bit a b apart q r = apart (omega (arith, q, r))

in_other_word : (words : List ℕ) (place other word : ℕ) → (other / 64 ≡ place / 64 → ⊥)
    → has_bit (set words (place / 64) (with_bit word place)) other ≡ has_bit words other
in_other_word words place other word h =
    ap (λ w. bit_at w (other % 64) == 1)
    (get_or-set_other words (place / 64) (other / 64) (with_bit word place) 0 h)

in_same_word : (words : List ℕ) (place other word : ℕ) → place / 64 < length words
    → word ≡ get_or words (place / 64) 0 → (other ≡ place → ⊥) → other / 64 ≡ place / 64
    → has_bit (set words (place / 64) (with_bit word place)) other ≡ has_bit words other
in_same_word words place other word within is apart same =
    let low : place % 64 < 64 = omega arith in
    ap (λ k. bit_at (get_or (set words (place / 64) (with_bit word place)) k 0) (other % 64) == 1)
    same
    ∙ ap (λ w. bit_at w (other % 64) == 1)
    (get_or-set_same words (place / 64) (with_bit word place) 0 within)
    ∙ ap (λ v. v == 1)
    (bit_at_set_other w64 word (place % 64) low (other % 64) (other_bit other place apart same))
    ∙ ap (λ w. bit_at w (other % 64) == 1) is
    ∙ ap (λ k. bit_at (get_or words k 0) (other % 64) == 1) (sym same)

at_place : (words : List ℕ) (place word : ℕ) → place / 64 < length words
    → has_bit (set words (place / 64) (with_bit word place)) place ≡ true
at_place words place word within =
    let low : place % 64 < 64 = omega arith in
    ap (λ w. bit_at w (place % 64) == 1)
    (get_or-set_same words (place / 64) (with_bit word place) 0 within)
    ∙ eq-eqb _ 1 (bit_at_set_same w64 word (place % 64) low)

pub has_bit-with : (words : List ℕ) (place other word : ℕ) → place / 64 < length words
    → word ≡ get_or words (place / 64) 0
    → has_bit (set words (place / 64) (with_bit word place)) other
    ≡ (other == place || has_bit words other)
has_bit-with words place other word within is =
    ⊎_elim
    (λ same. ap (has_bit (set words (place / 64) (with_bit word place))) same
    ∙ at_place words place word within
    ∙ sym (ap (λ t. t || has_bit words other) (eq-eqb other place same)))
    (λ apart.
    ⊎_elim (in_same_word words place other word within is apart)
    (in_other_word words place other word) (cases_eq (other / 64) (place / 64))
    ∙ sym (ap (λ t. t || has_bit words other) (ne_eqb other place apart)))
    (cases_eq other place)
