use Rattle.std.proofs.Common.{refl, ap, ◌∙◌, arith}
use Rattle.std.proofs.lemmas.Nat.Bits.{bit_at-zero}
use Rattle.std.specs.Int.{bit_at}
use Rattle.glob_match.proofs.WordLemmas.{unchanged, change}
use Rattle.glob_match.proofs.words.clear.Goals as goal

pub loop-at-init : goal.loop-at-init
loop-at-init c = unchanged _ c.args.words.now

pub loop-at-preserved : goal.loop-at-preserved
loop-at-preserved c =
    change _ c.args.words.now c.loop-at.words c.loop-at.at 0 (omega arith) c.loop-at.invariant refl

pub returns : goal.returns
returns c k i lt low =
    ap (λ w. bit_at w i) (c.loop-at.invariant.done k (omega arith)) ∙ bit_at-zero i
