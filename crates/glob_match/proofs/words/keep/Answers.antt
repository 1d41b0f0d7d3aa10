use Rattle.std.proofs.Common.{ap, ◌∙◌, ◌+◌, ◌*◌, min, slice_index, bit_and, arith}
use Rattle.std.proofs.lemmas.Nat.Bits.{bit_at_and}
use Rattle.std.specs.Int.{bit_at}
use Rattle.glob_match.proofs.WordLemmas.{unchanged, change, bit_both}
use Rattle.glob_match.proofs.words.keep.Goals as goal

pub loop-at-init : goal.loop-at-init
loop-at-init c = unchanged _ c.args.words.now

pub loop-at-preserved : goal.loop-at-preserved
loop-at-preserved c =
    let at = c.loop-at.at in
    change _ c.args.words.now c.loop-at.words at _ (omega arith) c.loop-at.invariant
    (ap (λ w. bit_and w (slice_index c.args.listed.now at))
    (c.loop-at.invariant.left at (omega arith)))

pub returns : goal.returns
returns c test list h g k i lt low =
    ap (λ w. bit_at w i) (c.loop-at.invariant.done k (omega arith))
    ∙ bit_at_and (slice_index c.args.words.now k) (slice_index c.args.listed.now k) i
    ∙ (λ j. min (h k i (omega arith) low j) (g k i (omega (arith, c.requires)) low j))
    ∙ bit_both (test (64 * k + i)) (list (64 * k + i))
