use Rattle.std.proofs.Common.{◌+◌, ◌<◌, length, drop, get_or, arith, refl, ◌∙◌, subst}
use Rattle.relation_order.specs.Sets.{goes, marked}
use Rattle.relation_order.specs.Placing.{Placing}
use Rattle.relation_order.proofs.PlaceSteps.{left-less}
use Rattle.relation_order.proofs.order.OrderBuilder.place_all.Goals as goal

pub loop-item-preserved : goal.loop-item-preserved
loop-item-preserved c =
    let l = c.loop-item in
    let at : l.item-index < length c.args.items.now = omega arith in
    record {
      fits = c.in_ok-place.ensures.fits;
      order = c.in_ok-place.ensures.order ∙ l.invariant.order;
      placing
          = λ p. c.in_ok-place.ensures.placing (drop (l.item-index + 1) c.args.items.now)
          (subst (Placing (goes c.args.lists.now) (marked c.args.members.now) l.self.order.items
          l.self.ready.keys (goes l.self.waits.items))
          (left-less c.args.items.now l.item-index (get_or c.args.items.now l.item-index 0)
          0 at refl) (l.invariant.placing p));
    }
