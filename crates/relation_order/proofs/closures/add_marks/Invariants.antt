use Rattle.std.proofs.Common.{◌≡◌, ℕ, cond, length, ltb, get_or}
use Rattle.std.specs.Prelude.{bit_or}
use Rattle.relation_order.proofs.closures.add_marks.Given as goal

abbrev pub invariant-loop-k : goal.invariant-loop-k
invariant-loop-k l =
    record {
      long : length l.row.items ≡ length l.initial.row.items;
      words : (j : ℕ)
          → get_or l.row.items j 0
          ≡ cond (ltb j l.k) (bit_or (get_or l.initial.row.items j 0) (get_or l.other j 0))
          (get_or l.initial.row.items j 0);
    }
