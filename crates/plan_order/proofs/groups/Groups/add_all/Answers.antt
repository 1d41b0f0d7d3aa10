use Rattle.std.proofs.Common.{◌≡◌, ◌+◌, ◌++◌, ◌∷◌, [], suc, length, take, get_or, arith, ap, sym}
use Rattle.std.proofs.Common.{◌∙◌, inl, inr}
use Rattle.std.proofs.lemmas.Bool.{cases_lt}
use Rattle.std.proofs.lemmas.List.{length-append}
use Rattle.std.proofs.Math.Seq.{get_or-append_seam}
use Rattle.std.proofs.Math.ListN.{get_or-append}
use Rattle.relation_order.specs.Sets.{has, goes, marked}
use Rattle.plan_order.specs.Plan.{with_group, with_groups}
use Rattle.plan_order.specs.Lists.{items_of}
use Rattle.plan_order.proofs.Requests.{group-whole, requested-at, groups-suc}
use Rattle.plan_order.proofs.groups.Groups.add_all.Goals as goal

pub add-requires-clause-all : goal.add-requires-clause-all
add-requires-clause-all c =
    group-whole c.requires.cycle c.loop-request.self.order.items c.deref.result.now
    (λ y h. requested-at c.args.requests.now c.loop-request.request-index c.request-item.result
    (omega arith) c.request-item.is y (ap (λ xs. has xs y) (sym c.deref.ensures.value) ∙ h))

pub loop-request-preserved : goal.loop-request-preserved
loop-request-preserved c =
    let i = c.loop-request.request-index in
    let s : suc c.loop-request.request-index ≡ c.loop-request.request-index + 1 = omega arith in
    let o : c.add.new.self.order.items
    ≡ with_groups (goes c.args.lists.now) (marked c.args.free.now)
    c.args.self.now.order.items
    (items_of (take (suc c.loop-request.request-index) c.args.requests.now))
    =
    c.in_ok-add.ensures.order
    ∙ ap (λ xs. with_group (goes c.args.lists.now) (marked c.args.free.now) xs c.deref.result.now)
    c.loop-request.invariant.order
    ∙ ap (with_group (goes c.args.lists.now) (marked c.args.free.now)
    (with_groups (goes c.args.lists.now) (marked c.args.free.now) c.args.self.now.order.items
    (items_of (take c.loop-request.request-index c.args.requests.now))))
    c.deref.ensures.value
    ∙ sym (groups-suc (goes c.args.lists.now) (marked c.args.free.now) c.args.self.now.order.items
    c.args.requests.now c.loop-request.request-index c.request-item.result (omega arith)
    c.request-item.is) in
    let n : c.len.result ≡ length c.add.new.self.order.items
    = omega (arith, c.len.ensures, c.add.new.self.order.ok.0) in
    record {
      order
          = o
          ∙ ap (λ k. with_groups (goes c.args.lists.now) (marked c.args.free.now)
          c.args.self.now.order.items (items_of (take k c.args.requests.now))) s;
      whole = c.in_ok-add.ensures.whole;
      long
          = ap length c.in_ok-push.ensures.items
          ∙ omega (
            arith,
            c.loop-request.invariant.long,
            length-append c.loop-request.ends.items (c.len.result ∷ []),
          );
      ends = λ k l. elim (cases_lt k c.loop-request.request-index) [
        | inl low ↦ ap (λ xs. get_or xs k 0) c.in_ok-push.ensures.items
            ∙ get_or-append c.loop-request.ends.items (c.len.result ∷ []) 0 k
            (omega (arith, c.loop-request.invariant.long))
            ∙ c.loop-request.invariant.ends k low
        | inr high ↦
            let e : k ≡ length c.loop-request.ends.items
            = omega (arith, c.loop-request.invariant.long) in
            let e' : c.loop-request.request-index ≡ k = omega arith in
            ap (λ xs. get_or xs k 0) c.in_ok-push.ensures.items
            ∙ ap (λ j. get_or (c.loop-request.ends.items ++ c.len.result ∷ []) j 0) e
            ∙ get_or-append_seam c.loop-request.ends.items c.len.result [] 0 ∙ n ∙ ap length o
            ∙ ap (λ j. length
            (with_groups (goes c.args.lists.now) (marked c.args.free.now)
            c.args.self.now.order.items (items_of (take (suc j) c.args.requests.now)))) e'
      ];
    }
