use Rattle.std.proofs.Common.{length}
use Rattle.plan_order.specs.Finding.{Asked}
use Rattle.plan_order.proofs.needs.find_requested.Given as goal

abbrev pub invariant-loop-request : goal.invariant-loop-request
invariant-loop-request l =
    Asked (length l.free) l.free l.requests l.request-index l.found.items l.marks.items
