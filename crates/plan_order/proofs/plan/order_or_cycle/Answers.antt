use Rattle.std.proofs.Common.{◌≡◌, ◌<◌, ℕ, Bool, List, length, arith, ap, sym, ◌∙◌, subst, false}
use Rattle.std.specs.Prelude.{All, slice_index_or}
use Rattle.relation_order.specs.Sets.{goes, marked, below}
use Rattle.relation_order.specs.Cycle.{cycle}
use Rattle.relation_order.specs.Least.{least_order}
use Rattle.relation_order.specs.Search.{Inside}
use Rattle.relation_order.specs.Answer.{IsOrder, Closes}
use Rattle.relation_order.proofs.Lists.{has-marked, seen-inside}
use Rattle.relation_order.proofs.Placing.{Rising, rising-filter, rising-range}
use Rattle.relation_order.proofs.PlaceSteps.{all-within}
use Rattle.relation_order.proofs.Answering.{order-empty, order-is, cycle-is}
use Rattle.plan_order.specs.Finding.{Rises}
use Rattle.plan_order.specs.Lists.{items_of}
use Rattle.plan_order.proofs.SlotLaws.{goes-same, length-same, inside-same}
use Rattle.plan_order.proofs.Lists.{rises-from}
use Rattle.plan_order.proofs.plan.order_or_cycle.Goals as goal

marked-up : (marks : List Bool) → Rising (marked marks)
marked-up marks =
    rising-filter (λ y. slice_index_or marks y false) (below (length marks))
    (rising-range 0 (length marks))

marked-low : (marks : List Bool) (n : ℕ) → length marks ≡ n → All (λ y. y < n) (marked marks)
marked-low marks n long =
    all-within n (marked marks)
    (λ y h. let l
    = seen-inside marks y (sym (has-marked marks y) ∙ h) in omega (arith, l, long))

pub order_among-requires-clause-rises : goal.order_among-requires-clause-rises
order_among-requires-clause-rises c =
    subst Rises (sym (c.deref.ensures.value ∙ c.in_ok-members.ensures))
    (rises-from (marked c.args.marks.now) (marked-up c.args.marks.now))

pub order_among-requires-clause-inside : goal.order_among-requires-clause-inside
order_among-requires-clause-inside c =
    let n = length c.args.lists.now in
    subst (λ xs. All (λ y. y < n) xs) (sym (c.deref.ensures.value ∙ c.in_ok-members.ensures))
    (marked-low c.args.marks.now n c.requires.long)

pub returns-then-len : goal.returns-then-len
returns-then-len c =
    let r = goes c.args.lists.now in
    let set = marked c.args.marks.now in
    let up = marked-up c.args.marks.now in
    let order
    = c.in_ok-order.ensures
    ∙ ap (least_order r) (c.deref.ensures.value ∙ c.in_ok-members.ensures) in
    let long : length (least_order r set) ≡ length set =
    omega (
      arith,
      c.if-len.true,
      c.len.ensures,
      c.len-2.ensures,
      c.in_ok-order.order.ok.0,
      c.in_ok-members.members.ok.0,
      ap length order,
      ap length c.in_ok-members.ensures,
    ) in
    (order-empty r set up long, order, subst (IsOrder r set) (sym order) (order-is r set up long))

pub named_cycle-requires-clause-inside : goal.named_cycle-requires-clause-inside
named_cycle-requires-clause-inside c =
    let lists = c.args.lists.now in
    let copies = c.deref-2.result.now in
    let same = ap items_of c.deref-2.ensures.value ∙ c.in_ok-copies.ensures in
    subst (λ n. Inside n copies) (sym (length-same lists copies same))
    (inside-same (length lists) lists copies same c.requires.inside)

pub returns : goal.returns
returns c =
    let r = goes c.args.lists.now in
    let set = marked c.args.marks.now in
    let up = marked-up c.args.marks.now in
    let order
    = c.in_ok-order.ensures
    ∙ ap (least_order r) (c.deref.ensures.value ∙ c.in_ok-members.ensures) in
    let same = ap items_of c.deref-2.ensures.value ∙ c.in_ok-copies.ensures in
    let is
    = c.in_ok-named_cycle.ensures
    ∙ ap (λ g. cycle g set) (goes-same c.args.lists.now c.deref-2.result.now same) in (
      is,
      subst (Closes r) (sym is)
          (cycle-is r set up
          (λ long. absurd
          (omega (
            arith,
            long,
            c.if-len.false,
            c.len.ensures,
            c.len-2.ensures,
            c.in_ok-order.order.ok.0,
            c.in_ok-members.members.ok.0,
            ap length order,
            ap length c.in_ok-members.ensures,
          )))),
    )
