use Rattle.std.proofs.Common.{ap, ◌∙◌, ◌*◌, ◌+◌, ◌-◌, max, length, drop, slice_index, arith}
use Rattle.std.proofs.lemmas.List.{get_or-drop, get_or-take}
use Rattle.std.proofs.lemmas.Nat.Bits.{bit_at_or}
use Rattle.std.specs.Int.{bit_at}
use Rattle.glob_match.specs.Words.{bit, is_between}
use Rattle.glob_match.proofs.WordLemmas.{unchanged, change, bit_either}
use Rattle.glob_match.proofs.words.add_range.Goals as goal

pub loop-at-init : goal.loop-at-init
loop-at-init c = unchanged _ c.args.words.now

pub loop-at-preserved : goal.loop-at-preserved
loop-at-preserved c =
    let at = c.loop-at.at in
    let bytes = c.args.bytes.now in
    change _ c.args.words.now c.loop-at.words at _ (omega arith) c.loop-at.invariant
    (λ i low.
    bit_at_or _ c.in_range.result i
    ∙ (λ j. max (bit_at (c.loop-at.invariant.left at (omega arith) j) i)
    (c.in_range.ensures i low j))
    ∙ ap (λ x. max (bit_at (slice_index c.args.words.now at) i)
    (bit (is_between c.args.low c.args.high x)))
    (get_or-take (length bytes - at * 64) (drop (at * 64) bytes) i 0 (omega (arith, low))
    ∙ get_or-drop (at * 64) bytes i 0 ∙ ap (slice_index bytes) (omega arith)))

pub returns : goal.returns
returns c test h k i lt low =
    let byte = slice_index c.args.bytes.now (64 * k + i) in
    c.loop-at.invariant.done k (omega arith) i low
    ∙ ap (λ b. max b (bit (is_between c.args.low c.args.high byte))) (h k i (omega arith) low)
    ∙ bit_either (test (64 * k + i)) (is_between c.args.low c.args.high byte)
