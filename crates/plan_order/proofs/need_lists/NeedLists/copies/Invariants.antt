use Rattle.std.proofs.Common.{◌≡◌, take}
use Rattle.plan_order.specs.Lists.{items_of}
use Rattle.plan_order.proofs.need_lists.NeedLists.copies.Given as goal

abbrev pub invariant-loop-place : goal.invariant-loop-place
invariant-loop-place l = items_of l.copies.items ≡ take l.place (items_of l.self)
