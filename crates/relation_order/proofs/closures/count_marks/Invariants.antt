use Rattle.std.proofs.Common.{◌≡◌, ◌*◌, ◌≤◌, take}
use Rattle.std.specs.Prelude.{count_ones}
use Rattle.std.specs.List.{sum_by}
use Rattle.relation_order.proofs.closures.count_marks.Given as goal

abbrev pub invariant-loop-word : goal.invariant-loop-word
invariant-loop-word l =
    record {
      value : l.count ≡ sum_by count_ones (take l.word-index l.row);
      bound : l.count ≤ 64 * l.word-index;
    }
