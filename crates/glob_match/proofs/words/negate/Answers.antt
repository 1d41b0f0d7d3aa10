use Rattle.std.proofs.Common.{ap, ◌∙◌, ◌-◌, ◌+◌, ◌*◌, ◌<◌, ◌^◌, slice_index, w64, arith, rules}
use Rattle.std.proofs.lemmas.Nat.Bits.{bit_at_not}
use Rattle.std.specs.Int.{bit_at, bit_not}
use Rattle.glob_match.proofs.WordLemmas.{unchanged, change, bit_other}
use Rattle.glob_match.proofs.words.negate.Goals as goal

pub loop-at-init : goal.loop-at-init
loop-at-init c = unchanged _ c.args.words.now

pub loop-at-preserved : goal.loop-at-preserved
loop-at-preserved c =
    change _ c.args.words.now c.loop-at.words c.loop-at.at _ (omega arith) c.loop-at.invariant
    (ap (bit_not w64) (c.loop-at.invariant.left c.loop-at.at (omega arith)))

pub returns : goal.returns
returns c test h k i lt low =
    let fits : slice_index c.args.words.now k < 2 ^ 64 = search rules in
    ap (λ w. bit_at w i) (c.loop-at.invariant.done k (omega arith)) ∙ bit_at_not w64 _ i fits low
    ∙ ap (λ b. 1 - b) (h k i (omega arith) low) ∙ bit_other (test (64 * k + i))
