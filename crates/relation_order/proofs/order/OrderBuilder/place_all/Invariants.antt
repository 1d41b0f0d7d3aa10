use Rattle.std.proofs.Common.{◌≡◌, drop}
use Rattle.relation_order.specs.Sets.{goes, marked}
use Rattle.relation_order.specs.Builder.{Fits}
use Rattle.relation_order.specs.Placing.{Placing}
use Rattle.relation_order.proofs.order.OrderBuilder.place_all.Given as goal

abbrev pub invariant-loop-item : goal.invariant-loop-item
invariant-loop-item l =
    record {
      fits : Fits l.lists l.members l.self;
      order : l.self.order.items ≡ l.initial.self.order.items;
      placing : Placing (goes l.lists) (marked l.members) l.initial.self.order.items
          l.initial.self.ready.keys (goes l.initial.self.waits.items) l.items
          → Placing (goes l.lists) (marked l.members) l.self.order.items l.self.ready.keys
          (goes l.self.waits.items) (drop l.item-index l.items);
    }
