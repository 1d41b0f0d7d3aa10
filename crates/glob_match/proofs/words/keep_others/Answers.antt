use Rattle.std.proofs.Common.{ap, ◌∙◌, ◌+◌, ◌-◌, ◌*◌, min, not, slice_index, bit_and, w64, ◌<◌, ◌^◌}
use Rattle.std.proofs.Common.{arith, rules}
use Rattle.std.proofs.lemmas.Nat.Bits.{bit_at_and, bit_at_not}
use Rattle.std.specs.Int.{bit_at, bit_not}
use Rattle.glob_match.proofs.WordLemmas.{unchanged, change, bit_both, bit_other}
use Rattle.glob_match.proofs.words.keep_others.Goals as goal

pub loop-at-init : goal.loop-at-init
loop-at-init c = unchanged _ c.args.words.now

pub loop-at-preserved : goal.loop-at-preserved
loop-at-preserved c =
    let at = c.loop-at.at in
    change _ c.args.words.now c.loop-at.words at _ (omega arith) c.loop-at.invariant
    (ap (λ w. bit_and w (bit_not w64 (slice_index c.args.listed.now at)))
    (c.loop-at.invariant.left at (omega arith)))

pub returns : goal.returns
returns c test list h g k i lt low =
    let fits : slice_index c.args.listed.now k < 2 ^ 64 = search rules in
    let other
    = bit_at_not w64 (slice_index c.args.listed.now k) i fits low
    ∙ ap (λ b. 1 - b) (g k i (omega (arith, c.requires)) low)
    ∙ bit_other (list (64 * k + i)) in
    ap (λ w. bit_at w i) (c.loop-at.invariant.done k (omega arith))
    ∙ bit_at_and (slice_index c.args.words.now k) (bit_not w64 (slice_index c.args.listed.now k)) i
    ∙ (λ j. min (h k i (omega arith) low j) (other j))
    ∙ bit_both (test (64 * k + i)) (not (list (64 * k + i)))
