use Rattle.std.proofs.Common.{◌≡◌, sym, ap, ◌∙◌, suc, ◌+◌, ◌-◌, ◌*◌, ◌/◌, ◌%◌, ◌^◌, length}
use Rattle.std.proofs.Common.{slice_index, bit_or, ℕ, ◌<◌, arith, rules}
use Rattle.std.proofs.lemmas.List.{get_or_past}
use Rattle.std.specs.Int.{bit_at}
use Rattle.glob_match.specs.Words.{bit}
use Rattle.glob_match.proofs.ShiftLemmas.{unchanged, change, window}
use Rattle.glob_match.proofs.words.shift_down.Goals as goal

pub loop-at-init : goal.loop-at-init
loop-at-init c = record {
  next_is = sym (get_or_past c.args.words.now (length c.args.words.now) 0 (omega arith));
  changed = unchanged _ c.args.words.now;
}

pub loop-at-preserved : goal.loop-at-preserved
loop-at-preserved c =
    let at = c.loop-at.at in
    let h = c.loop-at.invariant in
    let same = h.changed.left (at - 1) (omega arith) in
    let back : at ≡ suc (at - 1) = omega arith in
    let next = h.next_is ∙ ap (slice_index c.args.words.now) back in
    record {
      next_is = same;
      changed
          = change _ c.args.words.now c.loop-at.words at _ (omega arith) (omega arith) h.changed
          (λ j. bit_or (same j / 2) (next j * 2 ^ 63 % 2 ^ 64));
    }

pub returns : goal.returns
returns c test h none k i lt low =
    let fits : (n : ℕ) → slice_index c.args.words.now n < 2 ^ 64 = λ n. search rules in
    let here : 64 * k + (1 + i) ≡ suc (64 * k + i) = omega arith in
    ap (λ w. bit_at w i) (c.loop-at.invariant.changed.done k (omega arith) (omega arith))
    ∙ window c.args.words.now fits test h none k 1 i (omega arith) (omega arith) low
    ∙ ap (λ n. bit (test n)) here
