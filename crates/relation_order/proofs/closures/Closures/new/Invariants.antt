use Rattle.std.proofs.Common.{◌≡◌, ◌≤◌, ℕ, true, length, take}
use Rattle.std.specs.Prelude.{All}
use Rattle.std.specs.Int.{div_ceil}
use Rattle.std.specs.Global.{Vec}
use Rattle.relation_order.specs.Sets.{goes, has}
use Rattle.relation_order.specs.Rows.{has_mark, row_at, AreReached}
use Rattle.relation_order.proofs.closures.Closures.new.Given as goal

abbrev pub invariant-loop-i : goal.invariant-loop-i
invariant-loop-i l =
    record {
      long : length l.rows.items ≡ length l.lists;
      rows_long : All (λ (row : Vec ℕ). length row.items ≤ div_ceil (length l.lists) 64)
          l.rows.items;
      in_order : All
          (λ (row : Vec ℕ). (y : ℕ) → has_mark row.items y ≡ true → has l.order.items y ≡ true)
          l.rows.items;
      known : (y : ℕ) → has (take l.i l.order.items) y ≡ true
          → AreReached (goes l.lists) (length l.lists) (row_at l.rows.items y) y;
    }
