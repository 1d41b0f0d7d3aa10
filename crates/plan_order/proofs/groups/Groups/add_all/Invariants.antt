use Rattle.std.proofs.Common.{◌≡◌, ◌<◌, ℕ, suc, length, take, get_or}
use Rattle.relation_order.specs.Sets.{goes, marked}
use Rattle.plan_order.specs.Plan.{with_groups}
use Rattle.plan_order.specs.Lists.{items_of}
use Rattle.plan_order.specs.Groups.{Whole}
use Rattle.plan_order.proofs.groups.Groups.add_all.Given as goal

abbrev pub invariant-loop-request : goal.invariant-loop-request
invariant-loop-request l =
    record {
      order : l.self.order.items
          ≡ with_groups (goes l.lists) (marked l.free) l.fn.self.order.items
          (items_of (take l.request-index l.requests));
      whole : Whole (goes l.lists) (marked l.free) (length l.lists) l.self;
      long : length l.ends.items ≡ l.request-index;
      ends : (k : ℕ) → k < l.request-index
          → get_or l.ends.items k 0
          ≡ length (with_groups (goes l.lists) (marked l.free) l.fn.self.order.items
          (items_of (take (suc k) l.requests)));
    }
