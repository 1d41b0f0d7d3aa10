use Rattle.std.proofs.Common.{◌≡◌, ◌<◌, ℕ, sym, ap, subst, ◌∙◌, ◌*◌, ◌+◌, ◌-◌, min, length, drop}
use Rattle.std.proofs.Common.{slice_index, arith}
use Rattle.std.proofs.lemmas.List.{get_or-drop, get_or-take, set-get_or}
use Rattle.std.proofs.lemmas.Nat.Bits.{bit_at_and, bit_at-zero}
use Rattle.std.specs.Int.{bit_at}
use Rattle.glob_match.specs.Words.{bit, is_between}
use Rattle.glob_match.proofs.WordLemmas.{Changed, unchanged, change, bit_both}
use Rattle.glob_match.proofs.words.keep_range.Goals.{then-words-at-ne0, else-words-at-ne0}
use Rattle.glob_match.proofs.words.keep_range.Goals as goal

pub loop-at-init : goal.loop-at-init
loop-at-init c = unchanged _ c.args.words.now

-- no place of an empty word is kept
none_kept : (old new b i : ℕ) → new ≡ old → new ≡ 0 → bit_at new i ≡ min (bit_at old i) b
none_kept old new b i same zero_word =
    ap (λ w. bit_at w i) zero_word ∙ bit_at-zero i
    ∙ sym (ap (λ w. min (bit_at w i) b) (sym same ∙ zero_word)
    ∙ ap (λ n. min n b) (bit_at-zero i) ∙ min_zero b)
  where
    min_zero : (b : ℕ) → min 0 b ≡ 0
    min_zero b = omega arith

pub loop-at-preserved : goal.loop-at-preserved
loop-at-preserved c =
    let at = c.loop-at.at in
    let old = c.args.words.now in
    let words = c.loop-at.words in
    let bytes = c.args.bytes.now in
    let h = c.loop-at.invariant in
    let in_words : at < length words = omega arith in
    let same = h.left at (omega arith) in
    elim c.if-words-at-ne0.branch [
      | then-words-at-ne0 v ↦
          rw (v.words-is)
          (change _ old words at _ in_words h
          (λ i low.
          bit_at_and _ v.in_range.result i
          ∙ (λ j. min (bit_at (same j) i) (v.in_range.ensures i low j))
          ∙ ap
          (λ x. min (bit_at (slice_index old at) i) (bit (is_between c.args.low c.args.high x)))
          (get_or-take (length bytes - at * 64) (drop (at * 64) bytes) i 0 (omega (arith, low))
          ∙ get_or-drop (at * 64) bytes i 0 ∙ ap (slice_index bytes) (omega arith))))
      | else-words-at-ne0 v ↦
          rw (v.words-is)
          (subst (λ ws. Changed
          (λ k old new. (i : ℕ) → i < 64
          → bit_at new i
          ≡ min (bit_at old i)
          (bit
          (is_between c.args.low c.args.high (slice_index bytes (64 * k + i)))))
          old ws (at + 1)) (set-get_or words at 0)
          (change _ old words at (slice_index words at) in_words h
          (λ i low. none_kept (slice_index old at) (slice_index words at) _ i same
          v.if-words-at-ne0.false)))
    ]

pub returns : goal.returns
returns c test h k i lt low =
    let byte = slice_index c.args.bytes.now (64 * k + i) in
    c.loop-at.invariant.done k (omega arith) i low
    ∙ ap (λ b. min b (bit (is_between c.args.low c.args.high byte))) (h k i (omega arith) low)
    ∙ bit_both (test (64 * k + i)) (is_between c.args.low c.args.high byte)
