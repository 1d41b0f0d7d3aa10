use Rattle.std.proofs.Common.{◌≡◌, ◌<◌, ◌+◌, suc, [], length, take, arith, ap, sym, ◌∙◌}
use Rattle.std.proofs.Common.{subst, ℕ}
use Rattle.std.specs.Prelude.{All, nat_eq}
use Rattle.std.specs.List.{IsDistinct}
use Rattle.std.specs.Global.{Vec}
use Rattle.std.proofs.lemmas.List.{length-append, length-map, take-map}
use Rattle.relation_order.specs.Sets.{has, goes, marked}
use Rattle.relation_order.specs.Answer.{After}
use Rattle.relation_order.proofs.PlaceSteps.{length-marked}
use Rattle.plan_order.specs.Plan.{plan, planned, plan_after, with_groups, singles, post_at}
use Rattle.plan_order.specs.Plan.{requested}
use Rattle.relation_order.specs.Sets.{successors}
use Rattle.plan_order.specs.Lists.{items_of}
use Rattle.plan_order.specs.Groups.{Whole}
use Rattle.plan_order.proofs.QueueLaws.{queue-plans}
use Rattle.plan_order.proofs.PlanLaws.{plan-distinct, plan-after}
use Rattle.plan_order.proofs.Complete.{plan-is_planned, planned-before, planned-asked, planned-post}
use Rattle.plan_order.proofs.Complete.{after-within, groups-more}
use Rattle.plan_order.proofs.Requests.{order-low, posts-here, after-length, plan-ended}
use Rattle.plan_order.proofs.SlotLaws.{successors-inside}
use Rattle.plan_order.proofs.plan.plan_without_cycle.Goals as goal

pub add_all-requires-clause-whole : goal.add_all-requires-clause-whole
add_all-requires-clause-whole c =
    subst (λ n. Whole (goes c.args.before.now) (marked c.args.free.now) n c.in_ok-groups.groups)
    c.len.ensures (c.in_ok-groups.ensures.whole c.args.before.now (marked c.args.free.now))

pub add_all-requires-clause-cycle : goal.add_all-requires-clause-cycle
add_all-requires-clause-cycle c =
    record {
      part
          = planned (goes c.args.before.now) (marked c.args.free.now) (successors c.args.post.now)
          (items_of c.args.requests.now);
      closed
          = planned-before (goes c.args.before.now) (marked c.args.free.now)
          (successors c.args.post.now) (items_of c.args.requests.now);
      asked
          = planned-asked (goes c.args.before.now) (marked c.args.free.now)
          (successors c.args.post.now) (items_of c.args.requests.now);
      none = c.requires.cycle;
    }

pub get-requires : goal.get-requires
get-requires c =
    let l : c.index-place.result.now < length c.args.free.now
    = order-low c.args.free.now c.loop-next.groups.order.items c.loop-next.next
    c.index-place.result.now c.loop-next.invariant.whole.within (omega arith)
    c.index-place.ensures in
    omega arith

pub add_each-requires-clause-modules : goal.add_each-requires-clause-modules
add_each-requires-clause-modules c =
    let l : c.index-place.result.now < length c.args.free.now
    = order-low c.args.free.now c.loop-next.groups.order.items c.loop-next.next
    c.index-place.result.now c.loop-next.invariant.whole.within (omega arith)
    c.index-place.ensures in
    let k : c.index-place.result.now < length c.args.post.now = omega arith in
    subst (All (λ y. y < length c.args.before.now)) (sym c.get.ensures)
    (successors-inside (length c.args.before.now) c.args.post.now c.index-place.result.now
    c.requires.post k)

pub add_each-requires-clause-cycle : goal.add_each-requires-clause-cycle
add_each-requires-clause-cycle c =
    let e
    = posts-here c.args.post.now c.loop-next.groups.order.items c.loop-next.next
    c.index-place.result.now c.get.result.now (omega arith) c.index-place.ensures c.get.ensures in
    let o = c.loop-next.invariant.order in
    record {
      part
          = planned (goes c.args.before.now) (marked c.args.free.now) (successors c.args.post.now)
          (items_of c.args.requests.now);
      closed
          = planned-before (goes c.args.before.now) (marked c.args.free.now)
          (successors c.args.post.now) (items_of c.args.requests.now);
      asked
          = λ y m t. planned-post (goes c.args.before.now) (marked c.args.free.now)
          (successors c.args.post.now) (items_of c.args.requests.now)
          (plan_after (goes c.args.before.now) (marked c.args.free.now)
          (successors c.args.post.now) (items_of c.args.requests.now) c.loop-next.next)
          (after-within (goes c.args.before.now) (marked c.args.free.now)
          (successors c.args.post.now) (items_of c.args.requests.now) c.loop-next.next)
          c.loop-next.next y m
          (ap (λ xs. requested (singles xs) y)
          (sym (e
          ∙ ap (λ xs. post_at (successors c.args.post.now) xs c.loop-next.next) o))
          ∙ t);
      none = c.requires.cycle;
    }

pub loop-next-smaller : goal.loop-next-smaller
loop-next-smaller c =
    let a
    = after-length (goes c.args.before.now) (marked c.args.free.now)
    (successors c.args.post.now) (items_of c.args.requests.now) c.loop-next.next in
    let e = ap length c.loop-next.invariant.order in
    omega (arith, a, e, length-marked c.args.free.now)

pub loop-next-preserved : goal.loop-next-preserved
loop-next-preserved c =
    let e
    = posts-here c.args.post.now c.loop-next.groups.order.items c.loop-next.next
    c.index-place.result.now c.get.result.now (omega arith) c.index-place.ensures c.get.ensures in
    let s : suc c.loop-next.next ≡ c.loop-next.next + 1 = omega arith in
    let w
    = groups-more (goes c.args.before.now) (marked c.args.free.now)
    c.loop-next.groups.order.items (singles c.get.result.now) in
    record {
      order =
          c.in_ok-add_each.ensures.order
          ∙ ap (λ xs. with_groups (goes c.args.before.now) (marked c.args.free.now)
          c.loop-next.groups.order.items (singles xs)) e
          ∙ ap (λ xs. with_groups (goes c.args.before.now) (marked c.args.free.now) xs
          (singles (post_at (successors c.args.post.now) xs c.loop-next.next)))
          c.loop-next.invariant.order
          ∙ ap (plan_after (goes c.args.before.now) (marked c.args.free.now)
          (successors c.args.post.now) (items_of c.args.requests.now)) s;
      whole = c.in_ok-add_each.ensures.whole;
      turns
          = omega (
            arith,
            ap length (c.in_ok-add_each.ensures.order ∙ w.1),
            length-append c.loop-next.groups.order.items w.0,
          );
    }

pub returns : goal.returns
returns c =
    let r = goes c.args.before.now in
    let set = marked c.args.free.now in
    let post = successors c.args.post.now in
    let requests = items_of c.args.requests.now in
    let e = ap length c.loop-next.invariant.order in
    let order : c.loop-next.groups.order.items
    ≡ plan (goes c.args.before.now) (marked c.args.free.now) (successors c.args.post.now)
    (items_of c.args.requests.now)
    =
    c.loop-next.invariant.order
    ∙ plan-ended (goes c.args.before.now) (marked c.args.free.now) (successors c.args.post.now)
    (items_of c.args.requests.now) c.loop-next.next (omega (arith, e)) (omega (arith, e)) in
    record {
      order = order;
      queue = let w = queue-plans r set post requests in (w.0, λ n l. w.1 n l ∙ sym order);
      distinct = subst (IsDistinct nat_eq) (sym order) (plan-distinct r set post requests);
      members
          = λ x. ap (λ xs. has xs x) order ∙ plan-is_planned r set post requests c.requires.cycle x;
      after = subst (After r set) (sym order) (plan-after r set post requests);
      ends_long
          = c.in_ok-ends.ensures.long
          ∙ sym (length-map c.args.requests.now (λ (v : Vec ℕ). v.items));
      ends = λ k l.
          c.in_ok-ends.ensures.ends k
          (omega (arith, l, length-map c.args.requests.now (λ (v : Vec ℕ). v.items)))
          ∙ ap (λ base. length
          (with_groups r set base (items_of (take (suc k) c.args.requests.now))))
          c.in_ok-groups.ensures.order
          ∙ ap (λ rs. length (with_groups r set [] rs))
          (sym (take-map (λ (v : Vec ℕ). v.items) (suc k) c.args.requests.now));
    }
