use Rattle.std.proofs.Common.{◌≡◌, length, take}
use Rattle.std.specs.Int.{div_ceil}
use Rattle.relation_order.proofs.ClosureSteps.{AreIn}
use Rattle.relation_order.proofs.closures.marked_anywhere.Given as goal

abbrev pub invariant-loop-row : goal.invariant-loop-row
invariant-loop-row l =
    record {
      long : length l.all.items ≡ div_ceil (length l.rows) 64;
      marks : AreIn l.all.items (take l.row-index l.rows);
    }
