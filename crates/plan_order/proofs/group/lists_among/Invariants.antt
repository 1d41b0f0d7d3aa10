use Rattle.std.proofs.Common.{◌≡◌, length}
use Rattle.relation_order.specs.Sets.{goes}
use Rattle.relation_order.specs.Search.{Inside}
use Rattle.plan_order.proofs.Places.{GoFirst}
use Rattle.plan_order.proofs.group.lists_among.Given as goal

abbrev pub invariant-loop-member : goal.invariant-loop-member
invariant-loop-member l =
    record {
      long : length l.inner.items ≡ l.member-index;
      inside : Inside (length l.members) l.inner.items;
      same : GoFirst (goes l.lists) l.members l.member-index l.inner.items;
    }
