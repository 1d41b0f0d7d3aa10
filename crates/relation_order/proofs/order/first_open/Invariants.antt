use Rattle.std.proofs.Common.{◌-◌, ◌≤◌, length, take}
use Rattle.relation_order.specs.Builder.{AllListed}
use Rattle.relation_order.proofs.order.first_open.Given as goal

abbrev pub invariant-loop-at : goal.invariant-loop-at
invariant-loop-at l =
    record
    { within : l.at ≤ length l.items; front : AllListed l.members l.listed (take l.at l.items) }

abbrev pub decreases-loop-at : goal.decreases-loop-at
decreases-loop-at l = length l.items - l.at
