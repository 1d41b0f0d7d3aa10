use Rattle.std.proofs.Common.{◌≡◌, ◌<◌, ◌++◌, length, arith, refl, ap, sym, ◌∙◌, subst}
use Rattle.std.specs.Prelude.{All}
use Rattle.std.proofs.lemmas.Bool.{or_right}
use Rattle.relation_order.specs.Sets.{has, goes, marked}
use Rattle.relation_order.specs.Least.{least_order}
use Rattle.relation_order.specs.Placing.{Closed}
use Rattle.relation_order.proofs.LeastLaws.{closed-more}
use Rattle.relation_order.proofs.Lists.{seen-inside}
use Rattle.relation_order.proofs.PlaceSteps.{all-within}
use Rattle.plan_order.specs.Plan.{members, with_group}
use Rattle.plan_order.proofs.PlanKeeps.{has-append, group-keeps}
use Rattle.plan_order.proofs.GroupSteps.{new-slice, sorted-members, all-listed, group-in}
use Rattle.plan_order.proofs.groups.Groups.add.Goals as goal

pub order_among-requires-clause-inside : goal.order_among-requires-clause-inside
order_among-requires-clause-inside c =
    let f = c.in_ok-find_group.ensures.found in
    let s : c.len-start.result ≡ length c.args.self.now.found.items
    = omega (arith, c.args.self.now.found.ok.0) in
    let e
    = new-slice c.args.self.now.found.items f.more.0 c.deref.result.now c.len-start.result
    (length c.deref.result.now) (c.deref.ensures.value ∙ f.more.1) s refl in
    subst (λ xs. All (λ y. y < length c.args.lists.now) xs) (sym c.deref-2.ensures.value)
    (all-within (length c.args.lists.now) c.in_ok-members.members.items (λ y h.
    let h' = ap (λ xs. has xs y) (sym e) ∙ sym (c.in_ok-members.ensures.items y) ∙ h in
    let l
    = seen-inside c.find_group.new.seen.items y
    (c.in_ok-find_group.ensures.marks.same y ∙ ap (λ xs. has xs y) f.more.1
    ∙ has-append c.args.self.now.found.items f.more.0 y ∙ or_right _ _ h') in
    omega (arith, l, c.in_ok-find_group.ensures.long, c.requires.whole.long)))

pub returns-clause-order : goal.returns-clause-order
returns-clause-order c =
    let f = c.in_ok-find_group.ensures.found in
    let w = c.requires.whole in
    let s : c.len-start.result ≡ length c.args.self.now.found.items
    = omega (arith, c.args.self.now.found.ok.0) in
    let e
    = new-slice c.args.self.now.found.items f.more.0 c.deref.result.now c.len-start.result
    (length c.deref.result.now) (c.deref.ensures.value ∙ f.more.1) s refl in
    let sorted : c.in_ok-members.members.items
    ≡ members (goes c.args.lists.now) (marked c.args.free.now) c.args.self.now.order.items
    c.args.request.now
    =
    sorted-members (goes c.args.lists.now) c.args.free.now c.args.request.now
    c.args.self.now.found.items c.find_group.new.found.items c.args.self.now.order.items f
    w.listed w.within
    c.in_ok-members.members.items c.in_ok-members.ensures.rises
    (λ y. c.in_ok-members.ensures.items y ∙ ap (λ xs. has xs y) e) in
    c.in_ok-extend_from_slice.ensures.items
    ∙ ap (λ xs. c.args.self.now.order.items ++ xs)
    (c.deref-3.ensures.value ∙ c.in_ok-group.ensures
    ∙ ap (least_order (goes c.args.lists.now)) (c.deref-2.ensures.value ∙ sorted))

pub returns-clause-whole : goal.returns-clause-whole
returns-clause-whole c =
    let f = c.in_ok-find_group.ensures.found in
    let w = c.requires.whole in
    let o : c.extend_from_slice.new.self.items
    ≡ with_group (goes c.args.lists.now) (marked c.args.free.now)
    c.args.self.now.order.items c.args.request.now
    = returns-clause-order c in
    record {
      marks = c.in_ok-find_group.ensures.marks;
      long = c.in_ok-find_group.ensures.long ∙ w.long;
      listed
          = λ y. all-listed (goes c.args.lists.now) c.args.free.now c.args.request.now
          c.args.self.now.found.items c.find_group.new.found.items
          c.args.self.now.order.items f w.listed w.within c.requires.all y
          ∙ ap (λ xs. has xs y) (sym o);
      within
          = λ y h. group-in (goes c.args.lists.now) c.args.free.now c.args.request.now
          c.args.self.now.found.items c.find_group.new.found.items c.args.self.now.order.items f
          w.listed w.within y (ap (λ xs. has xs y) (sym o) ∙ h);
      closed = subst (Closed (goes c.args.lists.now) (marked c.args.free.now)) (sym o)
          (group-keeps (goes c.args.lists.now) (marked c.args.free.now)
          (Closed (goes c.args.lists.now) (marked c.args.free.now))
          (closed-more (goes c.args.lists.now) (marked c.args.free.now))
          c.args.self.now.order.items c.args.request.now w.closed);
    }
