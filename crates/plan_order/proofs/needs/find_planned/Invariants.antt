use Rattle.std.proofs.Common.{◌≡◌, ◌-◌, length, take}
use Rattle.relation_order.specs.Search.{Inside}
use Rattle.plan_order.proofs.Planning.{Progress, Follows}
use Rattle.plan_order.proofs.needs.find_planned.Given as goal

abbrev pub invariant-loop-next : goal.invariant-loop-next
invariant-loop-next g l =
    record {
      count : g.N.Needs.count l.needs ≡ g.N.Needs.count l.fn.needs;
      before_is : g.N.Needs.before l.needs ≡ g.N.Needs.before l.fn.needs;
      after_is : g.N.Needs.after l.needs ≡ g.N.Needs.after l.fn.needs;
      progress : Progress (length l.free) l.free (g.N.Needs.before l.fn.needs)
          (g.N.Needs.after l.fn.needs) l.requests l.next l.found.items l.marks.items;
      before : Follows (g.N.Needs.before l.fn.needs) (take l.next l.found.items) l.before;
      after : Follows (g.N.Needs.after l.fn.needs) (take l.next l.found.items) l.after;
      before_long : length l.before ≡ length l.free;
      after_long : length l.after ≡ length l.free;
      before_inside : Inside (length l.free) l.before;
      after_inside : Inside (length l.free) l.after;
    }

abbrev pub decreases-loop-next : goal.decreases-loop-next
decreases-loop-next g l = length l.free - l.next
