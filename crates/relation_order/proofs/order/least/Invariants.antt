use Rattle.std.proofs.Common.{◌≡◌, []}
use Rattle.relation_order.specs.Sets.{goes, marked, times}
use Rattle.relation_order.specs.Least.{with_next}
use Rattle.relation_order.specs.Builder.{Fits}
use Rattle.relation_order.specs.Placing.{Placing}
use Rattle.relation_order.proofs.order.least.Given as goal

abbrev pub invariant-loop-round : goal.invariant-loop-round
invariant-loop-round l =
    record {
      fits : Fits l.lists l.members l.builder;
      placing : Placing (goes l.lists) (marked l.members) l.builder.order.items l.builder.ready.keys
          (goes l.builder.waits.items) [];
      order : l.builder.order.items
          ≡ times l.round (with_next (goes l.lists) (marked l.members)) [];
    }
