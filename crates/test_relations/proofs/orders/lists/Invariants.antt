use Rattle.std.proofs.Common.{◌≡◌, length}
use Rattle.relation_order.specs.Search.{Inside}
use Rattle.test_relations.proofs.orders.lists.Given as goal

abbrev pub invariant-loop-item : goal.invariant-loop-item
invariant-loop-item l =
    record {
      long : length l.lists.items ≡ l.item;
      inside : Inside l.count l.lists.items;
    }
