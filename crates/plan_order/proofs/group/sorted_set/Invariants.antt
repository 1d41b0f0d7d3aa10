use Rattle.std.proofs.Common.{◌≡◌, ℕ, take}
use Rattle.relation_order.specs.Sets.{has}
use Rattle.plan_order.specs.Finding.{Rises}
use Rattle.plan_order.proofs.group.sorted_set.Given as goal

abbrev pub invariant-loop-item : goal.invariant-loop-item
invariant-loop-item l =
    record {
      rises : Rises l.sorted.keys;
      items : (y : ℕ) → has l.sorted.keys y ≡ has (take l.item-index l.items) y;
    }
