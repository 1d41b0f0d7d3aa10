use Rattle.std.proofs.Common.{[], ◌≡◌, ℕ, sym, subst}
use Rattle.relation_order.specs.Sets.{successors}
use Rattle.plan_order.specs.Slots.{at_slots}
use Rattle.plan_order.proofs.SlotLaws.{slots-empty, inside-empty}
use Rattle.plan_order.proofs.need_lists.NeedLists.new.Goals as goal

pub returns-clause-empty : goal.returns-clause-empty
returns-clause-empty c =
    subst (λ ks. (x : ℕ) → successors (at_slots ks c.in_ok-slots.slots.items) x ≡ [])
    (sym c.in_ok-kept.ensures.items)
    (slots-empty c.new.result c.in_ok-slots.slots.items c.new.ensures.items)

pub returns-clause-inside : goal.returns-clause-inside
returns-clause-inside c =
    inside-empty c.args.count (at_slots c.in_ok-kept.kept.items c.in_ok-slots.slots.items)
    (returns-clause-empty c)
