use Rattle.std.proofs.Common.{◌≡◌, ◌≤◌, ◌-◌, length}
use Rattle.relation_order.specs.Sets.{goes, marked}
use Rattle.plan_order.specs.Plan.{plan_after}
use Rattle.relation_order.specs.Sets.{successors}
use Rattle.plan_order.specs.Lists.{items_of}
use Rattle.plan_order.specs.Groups.{Whole}
use Rattle.plan_order.proofs.plan.plan_without_cycle.Given as goal

abbrev pub invariant-loop-next : goal.invariant-loop-next
invariant-loop-next l =
    record {
      order : l.groups.order.items
          ≡ plan_after (goes l.before) (marked l.free) (successors l.post) (items_of l.requests)
          l.next;
      whole : Whole (goes l.before) (marked l.free) (length l.before) l.groups;
      turns : l.next ≤ length l.groups.order.items;
    }

abbrev pub decreases-loop-next : goal.decreases-loop-next
decreases-loop-next l = length l.before - l.next
