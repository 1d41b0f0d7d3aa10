use Rattle.std.proofs.Common.{◌≡◌, ℕ, [], length}
use Rattle.std.specs.Prelude.{All}
use Rattle.std.specs.Global.{Vec}
use Rattle.relation_order.proofs.closures.empty_rows.Given as goal

abbrev pub invariant-loop : goal.invariant-loop
invariant-loop l =
    record {
      long : length l.rows.items ≡ l.counter;
      empty : All (λ (row : Vec ℕ). row.items ≡ []) l.rows.items;
    }
