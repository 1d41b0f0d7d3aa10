use Rattle.std.proofs.Common.{get_or, arith, ap, ◌∙◌}
use Rattle.std.specs.Prelude.{count_ones}
use Rattle.std.specs.List.{sum_by}
use Rattle.std.specs.Int.Count.{ones-le}
use Rattle.std.proofs.lemmas.List.{take_all}
use Rattle.std.proofs.lemmas.List.Sums.{sum_by_more}
use Rattle.relation_order.proofs.MarkSteps.{marks-are_ones}
use Rattle.relation_order.proofs.closures.count_marks.Goals as goal

pub loop-word-preserved : goal.loop-word-preserved
loop-word-preserved c =
    let i = c.loop-word.word-index in
    let most
    = ones-le 64 (get_or c.args.row.now c.loop-word.word-index 0)
    (c.type_inv.row c.loop-word.word-index).fits in
    let more = sum_by_more count_ones c.args.row.now c.loop-word.word-index 0 (omega arith) in
    record {
      value = omega (arith, more, c.from-count.ensures, c.loop-word.invariant.value);
      bound = omega (arith, most, c.from-count.ensures, c.loop-word.invariant.bound);
    }

pub returns : goal.returns
returns c =
    c.loop-word.invariant.value
    ∙ ap (sum_by count_ones) (take_all c.loop-word.word-index c.args.row.now (omega arith))
    ∙ marks-are_ones c.args.row.now (λ k. (c.type_inv.row k).fits)
