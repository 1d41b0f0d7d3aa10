use Rattle.std.proofs.Common.{◌≡◌, ℕ, sym, ap, subst, ◌∙◌, suc, ◌+◌, ◌&&◌, ◌∷◌, length, drop}
use Rattle.std.proofs.Common.{slice_index, arith}
use Rattle.glob_pattern.specs.Pattern.{closing}
use Rattle.glob_match.specs.Words.{HasBits, is_between}
use Rattle.glob_match.specs.Ends.{is_end, part}
use Rattle.glob_match.proofs.ReadLemmas.{same_bits}
use Rattle.glob_match.proofs.EndLemmas.{byte_before, no_end_past, part_first, written}
use Rattle.glob_match.proofs.backward.Backward.close.Goals as goal

pub returns-clause-back : goal.returns-clause-back
returns-clause-back c file text lt within closed t h =
    let old = c.args.self.now in
    let at = c.args.at in
    let after = part file (at + 1) old.to in
    let later = λ (n : ℕ). is_end after text (suc n) in
    let shifted = c.shift_down.new.words in
    let kept = c.keep_range.new.words in
    let count : length shifted ≡ old.ends.len
    = omega (arith, c.shift_down.auto.words, c.deref_mut.ensures.len) in
    let some : length kept ≡ old.ends.len
    = omega (arith, c.keep_range.auto.words, c.deref_mut-2.ensures.len) in
    let moved
    = c.shift_down.ensures (is_end after text)
    (subst (λ ws. HasBits ws (is_end after text)) (sym c.deref_mut.ensures.value) h.ends)
    (no_end_past after text _ (omega (arith, c.deref_mut.ensures.len, c.requires.ends, t.size_is)))
    in
    let whole
    = written later shifted (drop (length shifted) old.ends.items) old.ends.len count moved in
    record {
      ends = written (is_end (part file at old.to) text) kept _ old.ends.len some
          (same_bits kept
          (λ n. later n && is_between closing closing (slice_index c.args.bytes.now n))
          (is_end (part file at old.to) text)
          (λ n.
          ap (λ x. later n && is_between closing closing x) (t.same n)
          ∙ sym (byte_before closing after text n (λ e. omega (arith, e)) (λ e. omega (arith, e))
          (λ e. omega (arith, e)))
          ∙ ap (λ p. is_end p text n)
          (sym (part_first file at old.to lt (omega (arith, lt, within))
          ∙ ap (λ b. b ∷ after) closed)))
          (c.keep_range.ensures later
          (subst (λ ws. HasBits ws later) (sym c.deref_mut-2.ensures.value) whole)));
      ahead
          = c.close.ensures.ahead file text old.to lt closed
          (subst (λ ws. HasBits ws later) (sym c.deref.ensures.value) whole);
    }
