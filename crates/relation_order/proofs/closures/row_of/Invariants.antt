use Rattle.std.proofs.Common.{◌≡◌, ◌≤◌, ◌<◌, ℕ, length, true, get_or}
use Rattle.std.specs.Int.{div_ceil}
use Rattle.relation_order.specs.Rows.{has_mark}
use Rattle.relation_order.specs.Sets.{has, goes, below}
use Rattle.relation_order.specs.Reached.{reached}
use Rattle.relation_order.proofs.closures.row_of.Given as goal

abbrev pub invariant-loop-at : goal.invariant-loop-at
invariant-loop-at l =
    record {
      within : l.at ≤ length l.items;
      long : length l.row.items ≡ div_ceil (length l.lists) 64;
      sound : (y : ℕ) → has_mark l.row.items y ≡ true
          → has (reached (goes l.lists) (below (length l.lists)) l.x) y ≡ true;
      direct : (p : ℕ) → l.at ≤ p → p < length l.items
          → has_mark l.row.items (get_or l.items p 0) ≡ true;
      closed : (y z : ℕ) → has_mark l.row.items y ≡ true → has (below (length l.lists)) z ≡ true
          → goes l.lists y z ≡ true → has_mark l.row.items z ≡ true;
    }

abbrev pub decreases-loop-at : goal.decreases-loop-at
decreases-loop-at l = l.at
