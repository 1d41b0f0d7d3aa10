use Rattle.std.proofs.Common.{◌≡◌, refl, sym, ap, subst, ◌∙◌, ⊎_elim, ℕ, suc, ◌+◌, ◌-◌, ◌*◌, ◌^◌}
use Rattle.std.proofs.Common.{◌<◌, ◌≤◌, Bool, true, false, List, length, set, slice_index, arith}
use Rattle.std.proofs.Common.{rules}
use Rattle.std.proofs.lemmas.Bool.{cases_eq}
use Rattle.std.proofs.lemmas.List.{get_or-set_same, get_or-set_other, set-get_or}
use Rattle.std.proofs.lemmas.Nat.{leading_top}
use Rattle.std.proofs.lemmas.Nat.Bits.{bit_at_ones, bit_at-zero, ones_shr}
use Rattle.std.specs.Int.{bit_at}
use Rattle.std.specs.Int.Count.{count_leading_zeros}
use Rattle.glob_match.specs.Words.{bit, HasBits}
use Rattle.glob_match.proofs.ShiftLemmas.{IsFilled, fill_later, fill_none, fill_top, fill_first}
use Rattle.glob_match.proofs.words.fill_down.Invariants.{Filling}
use Rattle.glob_match.proofs.words.fill_down.Goals as goal

-- the word before, by its bits
fill_on : (old words : List ℕ) (at word : ℕ) (found more : Bool) → 0 < at → at ≤ length old
    → length words ≡ length old → Filling old words at found
    → ((test full : ℕ → Bool) → HasBits old test → IsFilled test full
    → full (64 * (at - 1 + 1)) ≡ found → (i : ℕ) → i < 64
    → bit_at word i ≡ bit (full (64 * (at - 1) + i)))
    → ((test full : ℕ → Bool) → HasBits old test → IsFilled test full
    → full (64 * (at - 1 + 1)) ≡ found → full (64 * (at - 1)) ≡ more)
    → Filling old (set words (at - 1) word) (at - 1) more
fill_on old words at word found more some within size w bits after = record {
  filled = λ test full h is last k i le lt low.
      ⊎_elim
      (λ here.
      let e : at - 1 ≡ k = sym here in
      subst (λ j. bit_at (slice_index (set words (at - 1) word) j) i ≡ bit (full (64 * j + i))) e
      (ap (λ x. bit_at x i)
      (get_or-set_same words (at - 1) word 0 (omega (arith, size, within, some)))
      ∙ bits test full h is (found_before test full h is last) i low))
      (λ other. ap (λ x. bit_at x i) (get_or-set_other words (at - 1) k word 0 other)
      ∙ w.filled test full h is last k i (omega (arith, le, other)) lt low)
      (cases_eq k (at - 1));
  found_is = λ test full h is last. after test full h is (found_before test full h is last);
  left
      = λ k lt. get_or-set_other words (at - 1) k word 0 (λ e. omega (arith, lt, e))
      ∙ w.left k (omega (arith, lt));
}
  where
    found_before : (test full : ℕ → Bool) → HasBits old test → IsFilled test full
        → full (64 * length old) ≡ false → full (64 * (at - 1 + 1)) ≡ found
    found_before test full h is last
        = let same : at ≡ at - 1 + 1
        = omega (arith, some) in subst (λ n. full (64 * n) ≡ found) same
        (w.found_is test full h is last)

fill_found : (old words : List ℕ) (at : ℕ) (found : Bool) → 0 < at → at ≤ length old
    → length words ≡ length old → Filling old words at found → found ≡ true
    → Filling old (set words (at - 1) (2 ^ 64 - 1)) (at - 1) found
fill_found old words at found some within size w yes_found =
    let lt : at - 1 < length old = omega (arith, some, within) in
    let none : 64 * (at - 1) + 0 ≡ 64 * (at - 1) = omega arith in
    fill_on old words at (2 ^ 64 - 1) found found some within size w
    (λ test full h is e i low. bit_at_ones 64 i low
    ∙ ap bit (sym
    (fill_later test full is old h (at - 1) lt (e ∙ yes_found) i (omega (arith, low)))))
    (λ test full h is e. ap full (sym none)
    ∙ fill_later test full is old h (at - 1) lt (e ∙ yes_found) 0 (omega arith)
    ∙ sym yes_found)

fill_new : (old words : List ℕ) (at j : ℕ) (found : Bool) → 0 < at → at ≤ length old
    → length words ≡ length old → Filling old words at found → found ≡ false → j < 64
    → 2 ^ j ≤ slice_index old (at - 1) → slice_index old (at - 1) < 2 ^ suc j
    → Filling old (set words (at - 1) (2 ^ suc j - 1)) (at - 1) true
fill_new old words at j found some within size w not_found small low high =
    let lt : at - 1 < length old = omega (arith, some, within) in
    fill_on old words at (2 ^ suc j - 1) found true some within size w
    (λ test full h is e i inside. fill_top test full is old h (at - 1) lt j small low high
    (e ∙ not_found) i inside)
    (λ test full h is e. fill_first test full is old h (at - 1) lt j small low high)

fill_empty : (old words : List ℕ) (at : ℕ) (found : Bool) → 0 < at → at ≤ length old
    → length words ≡ length old → Filling old words at found → found ≡ false
    → slice_index words (at - 1) ≡ 0 → Filling old words (at - 1) found
fill_empty old words at found some within size w not_found zero_word =
    let lt : at - 1 < length old = omega (arith, some, within) in
    let e : slice_index old (at - 1) ≡ 0
    = sym (w.left (at - 1) (omega (arith, some))) ∙ zero_word in
    let none : 64 * (at - 1) + 0 ≡ 64 * (at - 1) = omega arith in
    subst (λ ws. Filling old ws (at - 1) found) (set-get_or words (at - 1) 0)
    (fill_on old words at (slice_index words (at - 1)) found found some within size w
    (λ test full h is f i low. ap (λ x. bit_at x i) zero_word ∙ bit_at-zero i
    ∙ ap bit (sym
    (fill_none test full is old h (at - 1) lt (f ∙ not_found) e i
    (omega (arith, low)))))
    (λ test full h is f. ap full (sym none)
    ∙ fill_none test full is old h (at - 1) lt (f ∙ not_found) e 0 (omega arith)
    ∙ sym not_found))

pub loop-at-init : goal.loop-at-init
loop-at-init c = record {
  filled = λ test full h is last k i le lt low. absurd (omega (arith, le, lt));
  found_is = λ test full h is last. last;
  left = λ k lt. refl;
}

pub loop-at-preserved-then-found : goal.loop-at-preserved-then-found
loop-at-preserved-then-found c =
    fill_found c.args.words.now c.loop-at.words c.loop-at.at c.loop-at.found (omega arith)
    (omega arith) c.loop-at.auto.words c.loop-at.invariant c.if-found.true

pub loop-at-preserved-then-word-ne0 : goal.loop-at-preserved-then-word-ne0
loop-at-preserved-then-word-ne0 c =
    let at = c.loop-at.at in
    let old = c.args.words.now in
    let word = slice_index c.loop-at.words (at - 1) in
    let same = c.loop-at.invariant.left (at - 1) (omega arith) in
    let fits : word < 2 ^ 64 = subst (λ x. x < 2 ^ 64) (sym same) (search rules) in
    let some : 0 < word = omega (arith, c.if-word-ne0.true) in
    let top = leading_top 64 word some fits in
    let j = top.0 in
    let few : count_leading_zeros 64 word ≤ 64 = omega (arith, top.1) in
    let count : 64 - count_leading_zeros 64 word ≡ suc j = omega (arith, top.1) in
    subst (λ x. Filling old (set c.loop-at.words (at - 1) x) (at - 1) true)
    (sym (ones_shr 64 (count_leading_zeros 64 word) few ∙ ap (λ n. 2 ^ n - 1) count))
    (fill_new old c.loop-at.words at j c.loop-at.found (omega arith) (omega arith)
    c.loop-at.auto.words c.loop-at.invariant c.if-found.false (omega (arith, top.1))
    (subst (λ x. 2 ^ j ≤ x) same top.2) (subst (λ x. x < 2 ^ suc j) same top.3))

pub loop-at-preserved : goal.loop-at-preserved
loop-at-preserved c =
    fill_empty c.args.words.now c.loop-at.words c.loop-at.at c.loop-at.found (omega arith)
    (omega arith) c.loop-at.auto.words c.loop-at.invariant c.if-found.false c.if-word-ne0.false

pub returns : goal.returns
returns c test full h is last k i lt low =
    c.loop-at.invariant.filled test full h is last k i (omega arith) (omega arith) low
