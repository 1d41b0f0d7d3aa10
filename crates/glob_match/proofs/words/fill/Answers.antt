use Rattle.std.proofs.Common.{◌≡◌, sym, ap, subst, ◌∙◌, ⊎_elim, ℕ, suc, ◌+◌, ◌-◌, ◌*◌, ◌^◌, ◌<◌}
use Rattle.std.proofs.Common.{Bool, true, false, List, length, set, slice_index, w64, arith, rules}
use Rattle.std.proofs.lemmas.Bool.{cases_eq}
use Rattle.std.proofs.lemmas.List.{get_or-set_same, get_or-set_other, set-get_or}
use Rattle.std.proofs.lemmas.Nat.Bits.{bit_at_ones, bit_at-zero, bit_at-trailing_zeros, ones_shl}
use Rattle.std.specs.Int.{bit_at, trailing_zeros}
use Rattle.glob_match.specs.Words.{bit, HasBits, any_up_to}
use Rattle.glob_match.proofs.WordLemmas.{any_below, still_below, after_some, empty_word, found_word}
use Rattle.glob_match.proofs.WordLemmas.{filled_word, up_to_below}
use Rattle.glob_match.proofs.words.fill.Invariants.{Filling}
use Rattle.glob_match.proofs.words.fill.Goals.{then-found, else-found+then-word-ne0}
use Rattle.glob_match.proofs.words.fill.Goals.{else-found+else-word-ne0}
use Rattle.glob_match.proofs.words.fill.Goals as goal

-- the next word, by its bits
fill_on : (old words : List ℕ) (at word : ℕ) (found more : Bool) → at < length old
    → at < length words → Filling old words at found
    → ((test : ℕ → Bool) → HasBits old test → found ≡ any_below test (64 * at) → (i : ℕ) → i < 64
    → bit_at word i ≡ bit (any_up_to test (64 * at + i)))
    → ((test : ℕ → Bool) → HasBits old test → found ≡ any_below test (64 * at)
    → more ≡ any_below test (64 * (at + 1)))
    → Filling old (set words at word) (at + 1) more
fill_on old words at word found more in_old in_words w bits after = record {
  filled = λ test h k i lt low.
      ⊎_elim
      (λ here.
      let e : at ≡ k = sym here in
      subst (λ j. bit_at (slice_index (set words at word) j) i ≡ bit (any_up_to test (64 * j + i)))
      e
      (ap (λ x. bit_at x i) (get_or-set_same words at word 0 in_words)
      ∙ bits test h (w.found_is test h) i low))
      (λ other. ap (λ x. bit_at x i) (get_or-set_other words at k word 0 other)
      ∙ w.filled test h k i (omega (arith, lt, other)) low)
      (cases_eq k at);
  found_is = λ test h. after test h (w.found_is test h);
  left
      = λ k le. get_or-set_other words at k word 0 (λ e. omega (arith, le, e))
      ∙ w.left k (omega (arith, le));
}

fill_found : (old words : List ℕ) (at : ℕ) (found : Bool) → at < length old → at < length words
    → Filling old words at found → found ≡ true
    → Filling old (set words at (2 ^ 64 - 1)) (at + 1) found
fill_found old words at found in_old in_words w yes_found =
    fill_on old words at (2 ^ 64 - 1) found found in_old in_words w
    (λ test h is i low. bit_at_ones 64 i low
    ∙ ap bit (sym (after_some test old h at in_old (sym is ∙ yes_found) i)))
    (λ test h is. yes_found
    ∙ sym (still_below test (64 * at) (64 * (at + 1)) (omega arith) (sym is ∙ yes_found)))

fill_first : (old words : List ℕ) (at t : ℕ) (found : Bool) → at < length old → at < length words
    → Filling old words at found → found ≡ false → t < 64 → bit_at (slice_index old at) t ≡ 1
    → ((i : ℕ) → i < t → bit_at (slice_index old at) i ≡ 0)
    → Filling old (set words at (2 ^ 64 - 2 ^ t)) (at + 1) true
fill_first old words at t found in_old in_words w not_found low there none =
    fill_on old words at (2 ^ 64 - 2 ^ t) found true in_old in_words w
    (λ test h is i small. filled_word test old h at in_old t low there none (sym is ∙ not_found) i
    small)
    (λ test h is. sym (found_word test old h at in_old t low there none))

fill_empty : (old words : List ℕ) (at : ℕ) (found : Bool) → at < length old → at < length words
    → Filling old words at found → found ≡ false → slice_index words at ≡ 0
    → Filling old words (at + 1) found
fill_empty old words at found in_old in_words w not_found zero_word =
    let e : slice_index old at ≡ 0 = sym (w.left at (omega arith)) ∙ zero_word in
    subst (λ ws. Filling old ws (at + 1) found) (set-get_or words at 0)
    (fill_on old words at (slice_index words at) found found in_old in_words w
    (λ test h is i low.
    let more : suc (64 * at + i) ≡ 64 * at + suc i = omega arith in
    ap (λ x. bit_at x i) zero_word ∙ bit_at-zero i
    ∙ ap bit (sym
    (up_to_below test (64 * at + i) ∙ ap (any_below test) more
    ∙ empty_word test old h at in_old e (sym is ∙ not_found) (suc i) (omega (arith, low)))))
    (λ test h is. let next : 64 * (at + 1) ≡ 64 * at + 64
    = omega arith in not_found
    ∙ sym (ap (any_below test) next
    ∙ empty_word test old h at in_old e (sym is ∙ not_found) 64 (omega arith))))

pub loop-at-preserved : goal.loop-at-preserved
loop-at-preserved c =
    let old = c.args.words.now in
    let words = c.loop-at.words in
    let at = c.loop-at.at in
    let w = c.loop-at.invariant in
    let fits : slice_index words at < 2 ^ 64
    = subst (λ x. x < 2 ^ 64) (sym (w.left at (omega arith))) (search rules) in
    elim c.if-found.branch [
      | then-found v ↦ rw (v.words-is, v.found-is)
          (fill_found old words at c.loop-at.found (omega arith) (omega arith) w v.if-found.true)
      | else-found+then-word-ne0 v ↦
          let t = trailing_zeros w64 (slice_index words at) in
          let some : 0 < slice_index words at = omega (arith, v.if-word-ne0.true) in
          let low = bit_at-trailing_zeros w64 (slice_index words at) some fits in
          let same = ap (λ x. bit_at x t) (sym (w.left at (omega arith))) in
          rw (v.words-is, v.found-is)
          (subst (λ x. Filling old (set words at x) (at + 1) true)
          (sym (ones_shl 64 t (omega (arith, low.0))))
          (fill_first old words at t c.loop-at.found (omega arith) (omega arith) w v.if-found.false
          low.0 (same ∙ low.1)
          (λ i lt. ap (λ x. bit_at x i) (sym (w.left at (omega arith))) ∙ low.2 i lt)))
      | else-found+else-word-ne0 v ↦ rw (v.words-is, v.found-is)
          (fill_empty old words at c.loop-at.found (omega arith) (omega arith) w v.if-found.false
          v.if-word-ne0.false)
    ]

pub returns : goal.returns
returns c test h k i lt low = c.loop-at.invariant.filled test h k i (omega arith) low
