use Rattle.std.proofs.Common.{◌≡◌, ◌<◌, ◌≤◌, Result, Ok, Err, true, length, arith, rules, sym, ap}
use Rattle.std.proofs.Common.{◌∙◌, subst}
use Rattle.std.specs.Prelude.{OnOk}
use Rattle.std.proofs.lemmas.List.{get_or_read, length_push}
use Rattle.relation_order.specs.Sets.{goes, marked}
use Rattle.relation_order.specs.Components.{Searching, looked_at, with_step}
use Rattle.relation_order.proofs.Lists.{goes-at, has-at}
use Rattle.relation_order.proofs.CycleSteps.{targets-inside}
use Rattle.relation_order.proofs.ComponentSearch.{at-open, open-inside, last-inside, last-item}
use Rattle.relation_order.proofs.ComponentSearch.{stepped, less-work, all-looked}
use Rattle.relation_order.proofs.components.CycleSearch.step.Goals as goal

on_all : {T E A B C D : Type 0} (r : Result T E) → OnOk r A → OnOk r B → OnOk r C → (A → B → C → D)
    → OnOk r D
on_all (Ok x) a b c f = f a b c
on_all (Err e) a b c f = tt

pub index-item-requires : goal.index-item-requires
index-item-requires c =
    omega (
      arith,
      at-open c.args.graph.now.lists.now c.args.graph.now.members.now c.args.self.now
          c.args.self.now.path.items c.args.at c.requires.search,
      c.args.self.now.stack.ok.0,
    )

pub bounds-lists-item : goal.bounds-lists-item
bounds-lists-item c =
    last-inside c.args.graph.now.lists.now c.args.graph.now.members.now c.args.self.now
    c.args.self.now.path.items c.args.at c.index-item.result.now c.requires.search
    c.index-item.ensures

pub offset_bounds-lists-item : goal.offset_bounds-lists-item
offset_bounds-lists-item c =
    let l : c.index-item.result.now < length c.args.graph.now.lists.now
    = last-inside c.args.graph.now.lists.now c.args.graph.now.members.now c.args.self.now
    c.args.self.now.path.items c.args.at c.index-item.result.now c.requires.search
    c.index-item.ensures in search rules

pub index-next-requires : goal.index-next-requires
index-next-requires c =
    let l
    = last-inside c.args.graph.now.lists.now c.args.graph.now.members.now c.args.self.now
    c.args.self.now.path.items c.args.at c.index-item.result.now c.requires.search
    c.index-item.ensures in
    omega (arith, c.requires.search.looked_long, c.args.self.now.looked.ok.0)

pub index_mut-requires : goal.index_mut-requires
index_mut-requires c =
    let l
    = last-inside c.args.graph.now.lists.now c.args.graph.now.members.now c.args.self.now
    c.args.self.now.path.items c.args.at c.index-item.result.now c.requires.search
    c.index-item.ensures in
    omega (arith, c.requires.search.looked_long, c.args.self.now.looked.ok.0)

pub look-requires-clause-at : goal.look-requires-clause-at
look-requires-clause-at c =
    at-open c.args.graph.now.lists.now c.args.graph.now.members.now c.args.self.now
    c.args.self.now.path.items c.args.at c.requires.search

pub look-requires-clause-target : goal.look-requires-clause-target
look-requires-clause-target c =
    let low
    = last-inside c.args.graph.now.lists.now c.args.graph.now.members.now c.args.self.now
    c.args.self.now.path.items c.args.at c.index-item.result.now c.requires.search
    c.index-item.ensures in
    let within : c.index-next.result.now < length c.index-lists-item.result.items
    = omega (arith, c.if-next-len.true, c.len.ensures, c.index-lists-item.result.ok.0) in
    subst (λ y. y < length c.args.graph.now.members.now) (sym c.index.ensures)
    (targets-inside c.args.graph.now.lists.now c.index-item.result.now
    (length c.args.graph.now.members.now) c.index-lists-item.result
    c.index-lists-item.result.items c.args.graph.now.inside low c.index-lists-item.is
    (λ i. c.index-lists-item.result.items) c.args.graph.now.long c.index-next.result.now
    c.index.result.now within)

pub leave-requires-clause-at : goal.leave-requires-clause-at
leave-requires-clause-at c =
    at-open c.args.graph.now.lists.now c.args.graph.now.members.now c.args.self.now
    c.args.self.now.path.items c.args.at c.requires.search

pub leave-requires-clause-within : goal.leave-requires-clause-within
leave-requires-clause-within c =
    open-inside c.args.graph.now.lists.now c.args.graph.now.members.now c.args.self.now _
    c.requires.search

pub returns-in_ok-push-clause-search : goal.returns-in_ok-push-clause-search
returns-in_ok-push-clause-search c =
    let low
    = last-inside c.args.graph.now.lists.now c.args.graph.now.members.now c.args.self.now
    c.args.self.now.path.items c.args.at c.index-item.result.now c.requires.search
    c.index-item.ensures in
    let item-is
    = last-item c.args.graph.now.lists.now c.args.graph.now.members.now c.args.self.now
    c.args.self.now.path.items c.args.at c.index-item.result.now c.requires.search
    c.index-item.ensures in
    let within : c.index-next.result.now < length c.index-lists-item.result.items
    = omega (arith, c.if-next-len.true, c.len.ensures, c.index-lists-item.result.ok.0) in
    let step : goes c.args.graph.now.lists.now c.index-item.result.now c.index.result.now ≡ true
    = goes-at c.args.graph.now.lists.now c.index-item.result.now c.index.result.now
    c.index-lists-item.result low c.index-lists-item.is
    ∙ has-at c.index-lists-item.result.items c.index-next.result.now c.index.result.now
    within c.index.ensures in
    on_all c.look.result c.look.ensures.search c.look.ensures.looked c.look.ensures.long (λ looks
    looked long.
    stepped c.args.graph.now.lists.now c.args.graph.now.members.now c.look.new.self
    c.args.self.now.looked.items c.index-item.result.now c.index-next.result.now
    c.index.result.now c.index-lists-item.result low c.requires.search.looked_long
    c.index-lists-item.is
    (get_or_read c.args.self.now.looked.items c.index-item.result.now c.index-next.result.now
    (omega (arith, c.requires.search.looked_long)) c.index-next.ensures 0) within
    (get_or_read c.index-lists-item.result.items c.index-next.result.now c.index.result.now
    within c.index.ensures 0) looked (long ∙ c.requires.search.states_long)
    (subst (λ x. Searching (goes c.args.graph.now.lists.now)
    (with_step (looked_at c.args.graph.now.lists.now c.args.self.now.looked.items) x
    c.index.result.now) (marked c.args.graph.now.members.now) c.look.new.self.states.items
    c.look.new.self.stack.items c.look.new.self.starts.items c.look.new.self.path.items)
    (sym item-is)
    (looks (goes c.args.graph.now.lists.now)
    (looked_at c.args.graph.now.lists.now c.args.self.now.looked.items)
    (ap (λ x. goes c.args.graph.now.lists.now x c.index.result.now) (sym item-is) ∙ step)
    (subst (Searching (goes c.args.graph.now.lists.now)
    (looked_at c.args.graph.now.lists.now c.args.self.now.looked.items)
    (marked c.args.graph.now.members.now) c.args.self.now.states.items
    c.args.self.now.stack.items c.args.self.now.starts.items)
    (sym c.in_ok-push.ensures.items) c.requires.search.searching))))

pub returns-in_ok-push-clause-work : goal.returns-in_ok-push-clause-work
returns-in_ok-push-clause-work c =
    let low
    = last-inside c.args.graph.now.lists.now c.args.graph.now.members.now c.args.self.now
    c.args.self.now.path.items c.args.at c.index-item.result.now c.requires.search
    c.index-item.ensures in
    let within : c.index-next.result.now < length c.index-lists-item.result.items
    = omega (arith, c.if-next-len.true, c.len.ensures, c.index-lists-item.result.ok.0) in
    on_all c.look.result c.look.ensures.looked c.look.ensures.path c.look.ensures.long (λ looked
    longer long.
    less-work c.args.graph.now.lists.now c.args.self.now.looked.items c.look.new.self.looked.items
    c.args.self.now.path.items c.look.new.self.path.items c.index-item.result.now
    c.index-next.result.now c.index-lists-item.result low c.requires.search.looked_long
    c.index-lists-item.is
    (get_or_read c.args.self.now.looked.items c.index-item.result.now c.index-next.result.now
    (omega (arith, c.requires.search.looked_long)) c.index-next.ensures 0) within looked
    (omega (
      arith,
      longer,
      ap length c.in_ok-push.ensures.items,
      length_push c.args.self.now.path.items c.args.at,
    )))

pub returns-else-next-len-clause-search : goal.returns-else-next-len-clause-search
returns-else-next-len-clause-search c =
    let low
    = last-inside c.args.graph.now.lists.now c.args.graph.now.members.now c.args.self.now
    c.args.self.now.path.items c.args.at c.index-item.result.now c.requires.search
    c.index-item.ensures in
    let item-is
    = last-item c.args.graph.now.lists.now c.args.graph.now.members.now c.args.self.now
    c.args.self.now.path.items c.args.at c.index-item.result.now c.requires.search
    c.index-item.ensures in
    let past : length c.index-lists-item.result.items ≤ c.index-next.result.now
    = omega (arith, c.if-next-len.false, c.len.ensures, c.index-lists-item.result.ok.0) in
    record {
      states_long = c.leave.ensures.long ∙ c.requires.search.states_long;
      looked_long = ap length c.leave.ensures.looked ∙ c.requires.search.looked_long;
      searching
          = subst (λ ks. Searching (goes c.args.graph.now.lists.now)
          (looked_at c.args.graph.now.lists.now ks) (marked c.args.graph.now.members.now)
          c.leave.new.self.states.items c.leave.new.self.stack.items
          c.leave.new.self.starts.items c.leave.new.self.path.items)
          (sym c.leave.ensures.looked)
          (c.leave.ensures.search
          (looked_at c.args.graph.now.lists.now c.args.self.now.looked.items)
          (marked c.args.graph.now.members.now)
          (λ y m t. subst (λ x. looked_at c.args.graph.now.lists.now c.args.self.now.looked.items x
          y
          ≡ true) item-is
          (all-looked c.args.graph.now.lists.now c.args.self.now.looked.items
          c.index-item.result.now c.index-next.result.now y c.index-lists-item.result
          low c.index-lists-item.is
          (get_or_read c.args.self.now.looked.items c.index-item.result.now
          c.index-next.result.now (omega (arith, c.requires.search.looked_long))
          c.index-next.ensures 0) past
          (ap (λ x. goes c.args.graph.now.lists.now x y) item-is ∙ t)))
          c.requires.search.searching);
    }
