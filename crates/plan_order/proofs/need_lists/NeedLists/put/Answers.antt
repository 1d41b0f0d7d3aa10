use Rattle.std.proofs.Common.{◌≡◌, ◌<◌, length, set, arith, ap, ◌∙◌}
use Rattle.plan_order.specs.Slots.{at_slots}
use Rattle.plan_order.proofs.SlotLaws.{slots-put}
use Rattle.plan_order.proofs.need_lists.NeedLists.put.Goals as goal

pub returns-clause-put : goal.returns-clause-put
returns-clause-put c =
    let i = c.self.inside in
    let l : c.args.place < length (at_slots c.self.inside.kept.items c.self.inside.slots.items)
    = omega (arith, c.requires, ap length c.self.view_is) in
    let s : length c.self.inside.kept.items ≡ c.in-Ok.slot
    = omega (arith, c.in-Ok.ensures, c.len.ensures, c.self.inside.kept.ok.0) in
    ap (λ ks. at_slots ks (set i.slots.items c.args.place c.in-Ok.slot)) c.in_ok-push.ensures.items
    ∙ slots-put i.kept.items i.slots.items c.args.place c.in-Ok.slot c.args.list c.self.invariant
    l s
    ∙ ap (λ ls. set ls c.args.place c.args.list) c.self.view_is
