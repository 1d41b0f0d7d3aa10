use Rattle.std.proofs.Common.{◌<◌, length, arith, ap, ◌∙◌}
use Rattle.relation_order.specs.Sets.{successors}
use Rattle.plan_order.specs.Slots.{at_slots}
use Rattle.plan_order.proofs.SlotLaws.{slots-get}
use Rattle.plan_order.proofs.need_lists.NeedLists.get.Goals as goal

pub returns : goal.returns
returns c =
    let i = c.self.inside in
    let l : c.args.place < length (at_slots c.self.inside.kept.items c.self.inside.slots.items)
    = omega (arith, c.requires, ap length c.self.view_is) in
    c.deref.ensures.value
    ∙ slots-get i.kept.items i.slots.items c.args.place c.index.result.now c.index-2.result.now
    c.self.invariant l c.index.ensures c.index-2.ensures
    ∙ ap (λ ls. successors ls c.args.place) c.self.view_is
