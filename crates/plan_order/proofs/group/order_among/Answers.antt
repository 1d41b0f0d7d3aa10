use Rattle.std.proofs.Common.{◌≡◌, ◌<◌, length, map, ap, sym, ◌∙◌, subst}
use Rattle.std.specs.Prelude.{All, slice_index}
use Rattle.relation_order.specs.Sets.{goes, marked, below}
use Rattle.relation_order.specs.Least.{least_order}
use Rattle.relation_order.proofs.PlaceSteps.{all-within}
use Rattle.plan_order.proofs.Places.{order-places, order-low}
use Rattle.plan_order.proofs.group.order_among.Goals as goal

pub at_places-requires : goal.at_places-requires
at_places-requires c =
    let is : c.deref-3.result.now
    ≡ least_order (goes c.in_ok-inner.inner.items) (below (length c.args.members.now))
    =
    c.deref-3.ensures.value ∙ c.in_ok-order.ensures
    ∙ ap (λ ls. least_order (goes ls) (marked c.deref-2.result.now)) c.deref.ensures.value
    ∙ ap (least_order (goes c.in_ok-inner.inner.items))
    (ap marked c.deref-2.ensures.value ∙ c.in_ok-all.ensures.members) in
    subst (λ xs. All (λ i. i < length c.args.members.now) xs) (sym is)
    (all-within (length c.args.members.now)
    (least_order (goes c.in_ok-inner.inner.items) (below (length c.args.members.now)))
    (order-low (goes c.args.lists.now) (goes c.in_ok-inner.inner.items) c.args.members.now
    c.requires.rises c.in_ok-inner.ensures.same))

pub returns : goal.returns
returns c =
    let is : c.deref-3.result.now
    ≡ least_order (goes c.in_ok-inner.inner.items) (below (length c.args.members.now))
    =
    c.deref-3.ensures.value ∙ c.in_ok-order.ensures
    ∙ ap (λ ls. least_order (goes ls) (marked c.deref-2.result.now)) c.deref.ensures.value
    ∙ ap (least_order (goes c.in_ok-inner.inner.items))
    (ap marked c.deref-2.ensures.value ∙ c.in_ok-all.ensures.members) in
    let made
    = ap (map (slice_index c.args.members.now)) is
    ∙ order-places (goes c.args.lists.now) (goes c.in_ok-inner.inner.items)
    c.args.members.now c.requires.rises c.in_ok-inner.ensures.same in
    subst (λ xs. Rattle.std.specs.Prelude.IfOk c.at_places.result (λ order. order.items ≡ xs)) made
    c.at_places.ensures
