use Rattle.std.proofs.Common.{◌≡◌, length, take}
use Rattle.relation_order.specs.Sets.{goes, marked}
use Rattle.plan_order.specs.Plan.{with_groups, singles}
use Rattle.plan_order.specs.Groups.{Whole}
use Rattle.plan_order.proofs.groups.Groups.add_each.Given as goal

abbrev pub invariant-loop-module : goal.invariant-loop-module
invariant-loop-module l =
    record {
      order : l.self.order.items
          ≡ with_groups (goes l.lists) (marked l.free) l.fn.self.order.items
          (singles (take l.module-index l.modules));
      whole : Whole (goes l.lists) (marked l.free) (length l.lists) l.self;
    }
