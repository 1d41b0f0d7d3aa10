use Rattle.std.proofs.Common.{◌-◌, length}
use Rattle.plan_order.proofs.GroupFinding.{Progress}
use Rattle.plan_order.proofs.groups.find_group.Given as goal

abbrev pub invariant-loop-next : goal.invariant-loop-next
invariant-loop-next l =
    Progress l.lists l.free l.request l.fn.found.items l.next l.found.items l.seen.items

abbrev pub decreases-loop-next : goal.decreases-loop-next
decreases-loop-next l = length l.lists - l.next
