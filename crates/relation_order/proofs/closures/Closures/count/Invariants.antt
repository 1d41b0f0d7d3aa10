use Rattle.std.proofs.Common.{◌≡◌, ◌*◌, ◌≤◌, length, take}
use Rattle.std.specs.List.{sum_by}
use Rattle.relation_order.proofs.closures.Closures.count.Given as goal

abbrev pub invariant-loop-row : goal.invariant-loop-row
invariant-loop-row l =
    record {
      value : l.count ≡ sum_by length (take l.row-index l.self);
      bound : l.count ≤ l.row-index * length l.self;
    }
