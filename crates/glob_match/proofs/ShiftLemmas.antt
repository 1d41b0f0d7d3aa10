-- Loops that change words from the last to the first, and the places of shifted and filled words.
use Rattle.std.proofs.Common.{◌≡◌, refl, sym, ap, subst, ◌∙◌, ⊎_elim, ℕ, zero, suc, ◌+◌, ◌-◌, ◌*◌}
use Rattle.std.proofs.Common.{◌/◌, ◌%◌, ◌^◌, ◌<◌, ◌≤◌, ◌==◌, min, max, Bool, true, false, ◌&&◌}
use Rattle.std.proofs.Common.{◌||◌, List, length, set, slice_index, bit_and, bit_or, w64, arith}
use Rattle.std.proofs.Math.Nat.{div-add-mod, mod-lt, pow-suc}
use Rattle.std.proofs.lemmas.Bool.{cases_eq, cases_lt, eq-eqb, ne_eqb, or_from, or_left, or_right}
use Rattle.std.proofs.lemmas.Bool.{and_parts}
use Rattle.std.proofs.lemmas.List.{get_or-set_same, get_or-set_other, get_or_past}
use Rattle.std.proofs.lemmas.Nat.{and_le_l, pow_pos}
use Rattle.std.proofs.lemmas.Nat.Bits.{bit_at-zero, bit_at_and, bit_at_or, bit_at_ones}
use Rattle.std.proofs.lemmas.Nat.Bits.{bit_at_ones_above, bit_at_cat_low, bit_at_cat_high}
use Rattle.std.proofs.lemmas.Nat.Bits.{bit_at_above, bit_at-trailing_zeros, bit_at-pow_same}
use Rattle.std.proofs.lemmas.Nat.Bits.{bit_at-pow_other}
use Rattle.std.specs.Int.{bit_at, trailing_zeros}
use Rattle.glob_match.specs.Words.{bit, HasBits}
use Rattle.glob_match.proofs.WordLemmas.{bit_both, bit_once}

-- ---- words that are changed from the last one on

-- The words from a place on were changed as P says of a word's place, its old value and its new
-- one.
pub record Changed (P : ℕ → ℕ → ℕ → Type 0) (old new : List ℕ) (at : ℕ) : Type 0 where
  pub done : (k : ℕ) → at ≤ k → k < length old → P k (slice_index old k) (slice_index new k)
  pub left : (k : ℕ) → k < at → slice_index new k ≡ slice_index old k

pub unchanged : (P : ℕ → ℕ → ℕ → Type 0) (old : List ℕ) → Changed P old old (length old)
unchanged P old = record { done = λ k le lt. absurd (omega (arith, le, lt)); left = λ k lt. refl }

pub change : (P : ℕ → ℕ → ℕ → Type 0) (old new : List ℕ) (at word : ℕ) → 0 < at → at ≤ length new
    → Changed P old new at → P (at - 1) (slice_index old (at - 1)) word
    → Changed P old (set new (at - 1) word) (at - 1)
change P old new at word some low h p = record {
  done = λ k le lt.
      ⊎_elim
      (λ here. subst (λ j. P j (slice_index old j) (slice_index (set new (at - 1) word) j))
      (sym here)
      (subst (P (at - 1) (slice_index old (at - 1)))
      (sym (get_or-set_same new (at - 1) word 0 (omega (arith, some, low)))) p))
      (λ other. subst (P k (slice_index old k)) (sym (get_or-set_other new (at - 1) k word 0 other))
      (h.done k (omega (arith, le, other)) lt))
      (cases_eq k (at - 1));
  left
      = λ k lt. get_or-set_other new (at - 1) k word 0 (λ e. omega (arith, lt, e))
      ∙ h.left k (omega (arith, lt));
}

-- ---- bits of shifted numbers

split_at : (n k : ℕ) → n / 2 ^ k * 2 ^ k + n % 2 ^ k ≡ n
split_at n k = let e = div-add-mod n (2 ^ k) in grind arith

low_rest : (n k : ℕ) → n % 2 ^ k < 2 ^ k
low_rest n k = mod-lt n (pow_pos k)

-- `n >> k`
pub bit_shr : (n k i : ℕ) → bit_at (n / 2 ^ k) i ≡ bit_at n (k + i)
bit_shr n k i =
    let back : k + i - k ≡ i = omega arith in
    ap (bit_at (n / 2 ^ k)) (sym back)
    ∙ sym (bit_at_cat_high (n / 2 ^ k) k (n % 2 ^ k) (k + i) (low_rest n k) (omega arith))
    ∙ ap (λ m. bit_at m (k + i)) (split_at n k)

-- The bits of a number that are kept where it is cut to a width.
pub bit_cut : (n w i : ℕ) → i < w → bit_at (n % 2 ^ w) i ≡ bit_at n i
bit_cut n w i lt =
    sym (bit_at_cat_low (n / 2 ^ w) w (n % 2 ^ w) i lt) ∙ ap (λ m. bit_at m i) (split_at n w)

power_more : (n k : ℕ) → n * 2 ^ k ≡ n * 2 ^ k + 0
power_more n k = omega arith

-- `n << k`
pub bit_shl_low : (n k i : ℕ) → i < 64 → i < k → bit_at (n * 2 ^ k % 2 ^ 64) i ≡ 0
bit_shl_low n k i low lt =
    bit_cut (n * 2 ^ k) 64 i low ∙ ap (λ m. bit_at m i) (power_more n k) ∙ bit_at_cat_low n k 0 i lt
    ∙ bit_at-zero i

pub bit_shl_high : (n k i : ℕ) → i < 64 → k ≤ i → 0 < 2 ^ k
    → bit_at (n * 2 ^ k % 2 ^ 64) i ≡ bit_at n (i - k)
bit_shl_high n k i low le some =
    bit_cut (n * 2 ^ k) 64 i low ∙ ap (λ m. bit_at m i) (power_more n k)
    ∙ bit_at_cat_high n k 0 i some le

-- ---- words from a place on

-- Two neighbors, from a place within the first of them on.
pub neighbors : (word next k i : ℕ) → 0 < k → k < 64 → i < 64
    → bit_at (bit_or (word / 2 ^ k) (next * 2 ^ (64 - k) % 2 ^ 64)) i
    ≡ max (bit_at word (k + i)) (bit_at (next * 2 ^ (64 - k) % 2 ^ 64) i)
neighbors word next k i some few low =
    bit_at_or (word / 2 ^ k) (next * 2 ^ (64 - k) % 2 ^ 64) i
    ∙ ap (λ b. max b (bit_at (next * 2 ^ (64 - k) % 2 ^ 64) i)) (bit_shr word k i)

max_zero : (b : ℕ) → max b 0 ≡ b
max_zero b = omega arith

zero_max : (b : ℕ) → max 0 b ≡ b
zero_max b = omega arith

module _ (words : List ℕ) (fits : (k : ℕ) → slice_index words k < 2 ^ 64) (test : ℕ → Bool)
    (h : HasBits words test) (none : (n : ℕ) → 64 * length words ≤ n → test n ≡ false) where
  -- A word that is there, or the zero after the last one.
  pub bit_there : (k i : ℕ) → i < 64 → bit_at (slice_index words k) i ≡ bit (test (64 * k + i))
  bit_there k i low =
      ⊎_elim
      (λ inside. h k i inside low)
      (λ past. ap (λ w. bit_at w i) (get_or_past words k 0 past) ∙ bit_at-zero i
      ∙ ap bit (sym (none (64 * k + i) (omega (arith, past)))))
      (cases_lt k (length words))

  pub window : (at k i : ℕ) → 0 < k → k < 64 → i < 64
      → bit_at (bit_or (slice_index words at / 2 ^ k)
      (slice_index words (suc at) * 2 ^ (64 - k) % 2 ^ 64)) i
      ≡ bit (test (64 * at + (k + i)))
  window at k i some few low =
      neighbors (slice_index words at) (slice_index words (suc at)) k i some few low
      ∙ ⊎_elim
      (λ same.
      (λ j. max (bit_there at (k + i) same j)
      (bit_shl_low (slice_index words (suc at)) (64 - k) i low (omega (arith, same)) j))
      ∙ max_zero (bit (test (64 * at + (k + i)))))
      (λ later.
      let next : 64 * suc at + (i - (64 - k)) ≡ 64 * at + (k + i) = omega (arith, later, few) in
      (λ j. max (bit_at_above (slice_index words at) 64 (k + i) (fits at) later j)
      (bit_shl_high (slice_index words (suc at)) (64 - k) i low (omega (arith, later))
      (pow_pos (64 - k)) j))
      ∙ zero_max (bit_at (slice_index words (suc at)) (i - (64 - k)))
      ∙ bit_there (suc at) (i - (64 - k)) (omega (arith, low))
      ∙ ap (λ n. bit (test n)) next)
      (cases_lt (k + i) 64)

-- ---- words that are filled from their highest place down

-- All places before one that is there.
abbrev pub IsFilled : (ℕ → Bool) → (ℕ → Bool) → Type 0
IsFilled test filled = (n : ℕ) → filled n ≡ (test n || filled (suc n))

still_there : (test filled : ℕ → Bool) → IsFilled test filled → (d n : ℕ) → filled (n + d) ≡ true
    → filled n ≡ true
still_there test filled is zero n e =
    let same : n + 0 ≡ n = omega arith in subst (λ m. filled m ≡ true) same e
still_there test filled is (suc d) n e =
    let next : n + suc d ≡ suc n + d = omega arith in
    is n
    ∙ or_right (test n) (filled (suc n))
    (still_there test filled is d (suc n) (subst (λ m. filled m ≡ true) next e))

pub there_before : (test filled : ℕ → Bool) → IsFilled test filled → (n m : ℕ) → n ≤ m
    → filled m ≡ true → filled n ≡ true
there_before test filled is n m le e =
    let same : m ≡ n + (m - n)
    = omega (arith, le) in still_there test filled is (m - n) n
    (subst (λ k. filled k ≡ true) same e)

none_from : (test filled : ℕ → Bool) → IsFilled test filled → (d n : ℕ) → filled (n + d) ≡ false
    → ((j : ℕ) → j < d → test (n + j) ≡ false) → filled n ≡ false
none_from test filled is zero n e none =
    let same : n + 0 ≡ n = omega arith in subst (λ m. filled m ≡ false) same e
none_from test filled is (suc d) n e none =
    let next : n + suc d ≡ suc n + d = omega arith in
    let here : n + 0 ≡ n = omega arith in
    is n
    ∙ or_from (test n) (filled (suc n))
    (subst (λ m. test m ≡ false) here (none 0 (omega arith)))
    (none_from test filled is d (suc n) (subst (λ m. filled m ≡ false) next e)
    (λ j lt. let there : n + suc j ≡ suc n + j
    = omega arith in subst (λ m. test m ≡ false) there
    (none (suc j) (omega (arith, lt)))))

module _ (test filled : ℕ → Bool) (is : IsFilled test filled) (words : List ℕ)
    (h : HasBits words test) (k : ℕ) (lt : k < length words) where
  no_place : (i : ℕ) → i < 64 → bit_at (slice_index words k) i ≡ 0 → test (64 * k + i) ≡ false
  no_place i low e = bit_once (test (64 * k + i)) false (sym (h k i lt low) ∙ e)

  -- No place is there from one of the word's on.
  none_later : filled (64 * (k + 1)) ≡ false → (i : ℕ) → i ≤ 64
      → ((j : ℕ) → i ≤ j → j < 64 → bit_at (slice_index words k) j ≡ 0)
      → filled (64 * k + i) ≡ false
  none_later past i le none =
      let end : 64 * (k + 1) ≡ 64 * k + i + (64 - i) = omega (arith, le) in
      none_from test filled is (64 - i) (64 * k + i) (subst (λ m. filled m ≡ false) end past)
      (λ j low. let at : 64 * k + (i + j) ≡ 64 * k + i + j
      = omega arith in subst (λ m. test m ≡ false) at
      (no_place (i + j) (omega (arith, low))
      (none (i + j) (omega arith) (omega (arith, low)))))

  pub fill_later : filled (64 * (k + 1)) ≡ true → (i : ℕ) → i ≤ 64 → filled (64 * k + i) ≡ true
  fill_later past i le
      = there_before test filled is (64 * k + i) (64 * (k + 1)) (omega (arith, le)) past

  pub fill_none : filled (64 * (k + 1)) ≡ false → slice_index words k ≡ 0 → (i : ℕ) → i ≤ 64
      → filled (64 * k + i) ≡ false
  fill_none past zero_word i le
      = none_later past i le (λ j _ _. ap (λ w. bit_at w j) zero_word ∙ bit_at-zero j)

  -- the highest place of the word
  module _ (j : ℕ) (small : j < 64) (low : 2 ^ j ≤ slice_index words k)
      (high : slice_index words k < 2 ^ suc j) where
    top_bit : bit_at (slice_index words k) j ≡ 1
    top_bit
        = one_more (slice_index words k) (2 ^ j) low
        (subst (λ p. slice_index words k < p) (twice j) high)
      where
        one_more : (n p : ℕ) → p ≤ n → n < 2 * p → n / p % 2 ≡ 1
        one_more n p le lt = grind arith

        twice : (j : ℕ) → 2 ^ suc j ≡ 2 * 2 ^ j
        twice j = omega (arith, pow-suc)

    top_there : filled (64 * k + j) ≡ true
    top_there
        = is (64 * k + j)
        ∙ or_left _ (filled (suc (64 * k + j)))
        (bit_once (test (64 * k + j)) true (sym (h k j lt small) ∙ top_bit))

    pub fill_top : filled (64 * (k + 1)) ≡ false → (i : ℕ) → i < 64
        → bit_at (2 ^ suc j - 1) i ≡ bit (filled (64 * k + i))
    fill_top past i inside =
        ⊎_elim
        (λ within. bit_at_ones (suc j) i within
        ∙ ap bit (sym
        (there_before test filled is (64 * k + i) (64 * k + j) (omega (arith, within))
        top_there)))
        (λ above.
        bit_at_ones_above (suc j) i above
        ∙ ap bit (sym
        (none_later past i (omega (arith, inside))
        (λ n le _. bit_at_above (slice_index words k) (suc j) n high
        (omega (arith, above, le))))))
        (cases_lt i (suc j))

    pub fill_first : filled (64 * k) ≡ true
    fill_first = there_before test filled is (64 * k) (64 * k + j) (omega arith) top_there

-- ---- places that are in both

module _ (some other : ℕ → Bool) (word window : ℕ) (start : ℕ)
    (bits : (i : ℕ) → i < 64 → bit_at word i ≡ bit (some (start + i)))
    (others : (i : ℕ) → i < 64 → bit_at window i ≡ bit (other (start + i))) where
  both_bits : (i : ℕ) → i < 64
      → bit_at (bit_and word window) i ≡ bit (some (start + i) && other (start + i))
  both_bits i low
      = bit_at_and word window i ∙ (λ j. min (bits i low j) (others i low j))
      ∙ bit_both (some (start + i)) (other (start + i))

  pub none_common : bit_and word window ≡ 0 → (i : ℕ) → i < 64
      → (some (start + i) && other (start + i)) ≡ false
  none_common e i low
      = bit_once (some (start + i) && other (start + i)) false
      (sym (both_bits i low) ∙ ap (λ w. bit_at w i) e ∙ bit_at-zero i)

  pub one_common : (bit_and word window ≡ 0 → ⊥) → bit_and word window < 2 ^ 64
      → (n : ℕ) × (some n ≡ true) × (other n ≡ true)
  one_common e fits =
      let low = bit_at-trailing_zeros w64 (bit_and word window) (omega (arith, e)) fits in
      let i = trailing_zeros w64 (bit_and word window) in
      let both
      = and_parts (some (start + i)) (other (start + i))
      (bit_once _ true (sym (both_bits i low.0) ∙ low.1)) in
      (start + i, both.0, both.1)

-- ---- one place alone

pub one_bit : (place k i : ℕ) → i < 64 → k ≡ place / 64
    → bit_at (1 * 2 ^ (place % 64) % 2 ^ 64) i ≡ bit (64 * k + i == place)
one_bit place k i low is =
    ap (λ n. bit_at (n % 2 ^ 64) i) one
    ∙ bit_cut (2 ^ (place % 64)) 64 i low
    ∙ ⊎_elim
    (λ here. subst (λ n. bit_at (2 ^ (place % 64)) n ≡ 1) (sym here) (bit_at-pow_same (place % 64))
    ∙ ap bit (sym (eq-eqb (64 * k + i) place (omega (arith, here, is)))))
    (λ other. bit_at-pow_other (place % 64) i other
    ∙ ap bit (sym (ne_eqb (64 * k + i) place (λ e. other (omega (arith, e, is, low))))))
    (cases_eq i (place % 64))
  where
    one : 1 * 2 ^ (place % 64) ≡ 2 ^ (place % 64)
    one = omega arith

-- A word of places that begin at a first one.
pub from_start : (some : ℕ → Bool) (first : ℕ) (words : List ℕ) (at : ℕ)
    → HasBits words (λ n. some (first + n)) → at < length words → (i : ℕ) → i < 64
    → bit_at (slice_index words at) i ≡ bit (some (first + at * 64 + i))
from_start some first words at h lt i low =
    let same : first + (64 * at + i) ≡ first + at * 64 + i = omega arith in
    h at i lt low ∙ ap (λ n. bit (some n)) same

pub and_fits : (a b : ℕ) → a < 2 ^ 64 → bit_and a b < 2 ^ 64
and_fits a b lt = let le = and_le_l a b in omega arith
