use Rattle.std.proofs.Common.{◌≡◌, ◌<◌, ◌≤◌, ◌+◌, length, arith, refl, ap, sym, ◌∙◌, subst, take}
use Rattle.std.specs.Prelude.{All, filter, slice_index_or, false}
use Rattle.std.proofs.lemmas.List.{length-set}
use Rattle.relation_order.specs.Search.{with_items, Inside}
use Rattle.plan_order.proofs.Planning.{Follows, started, followed, ended, inside-at, follows-none}
use Rattle.plan_order.proofs.Planning.{follows-more, front-stays, inside-set, planned-follows}
use Rattle.plan_order.proofs.needs.find_planned.Goals as goal

pub loop-next-init : goal.loop-next-init
loop-next-init g c =
    record {
      count = refl;
      before_is = refl;
      after_is = refl;
      progress
          = started (length c.args.free.now) c.args.free.now (g.N.Needs.before c.args.needs.now)
          (g.N.Needs.after c.args.needs.now) c.args.requests.now (length c.args.requests.now)
          c.find_requested.new.found.items c.find_requested.new.marks.items
          c.in_ok-find_requested.ensures.asked (omega arith);
      before
          = follows-none (g.N.Needs.before c.args.needs.now) c.find_requested.new.found.items
          c.in_ok-before.before;
      after
          = follows-none (g.N.Needs.after c.args.needs.now) c.find_requested.new.found.items
          c.in_ok-after.after;
      before_long = c.in_ok-before.ensures.long;
      after_long = c.in_ok-after.ensures.long;
      before_inside = c.in_ok-before.ensures.inside;
      after_inside = c.in_ok-after.ensures.inside;
    }

pub needed-requires : goal.needed-requires
needed-requires g c =
    let l
    = inside-at c.loop-next.invariant.progress c.loop-next.next c.index-place.result.now
    (omega arith) c.index-place.ensures in
    omega (arith, l, c.requires.free, c.loop-next.invariant.count)

pub put-requires : goal.put-requires
put-requires g c =
    let l
    = inside-at c.loop-next.invariant.progress c.loop-next.next c.index-place.result.now
    (omega arith) c.index-place.ensures in
    omega (arith, l, c.loop-next.invariant.before_long)

pub put-requires-in-loop-next : goal.put-requires-in-loop-next
put-requires-in-loop-next g c =
    let l
    = inside-at c.loop-next.invariant.progress c.loop-next.next c.index-place.result.now
    (omega arith) c.index-place.ensures in
    omega (arith, l, c.loop-next.invariant.after_long)

pub loop-next-preserved : goal.loop-next-preserved
loop-next-preserved g c =
    let o = c.loop-next in
    let p = c.loop-next.invariant.progress in
    let place = c.index-place.result.now in
    let needed = c.in_ok-needed.needed in
    let comes_before
    = c.in_ok-needed.ensures.before ∙ ap (λ f. f place) c.loop-next.invariant.before_is in
    let wanted_after
    = c.in_ok-needed.ensures.after ∙ ap (λ f. f place) c.loop-next.invariant.after_is in
    let low_count = c.loop-next.invariant.count ∙ sym c.requires.free in
    let free = c.args.free.now in
    let low
    = inside-at c.loop-next.invariant.progress c.loop-next.next c.index-place.result.now
    (omega arith) c.index-place.ensures in
    let middle
    = c.in_ok-find_all.ensures.found p.marks
    ∙ ap (λ xs. with_items o.found.items
    (filter (λ y. slice_index_or c.args.free.now y false) xs)) c.deref.ensures.value in
    let last
    = c.in_ok-find_all-2.ensures.found (c.in_ok-find_all.ensures.marks p.marks)
    ∙ ap (λ xs. with_items c.find_all.new.found.items
    (filter (λ y. slice_index_or c.args.free.now y false) xs))
    c.deref-in-loop-next.ensures.value in
    let front
    = front-stays free needed.before.items needed.after.items o.found.items
    c.find_all.new.found.items c.find_all-in-loop-next.new.found.items (o.next + 1) middle
    last (omega arith) in
    record {
      count = c.in_ok-needed.ensures.count_stays ∙ o.invariant.count;
      before_is = c.in_ok-needed.ensures.before_stays ∙ o.invariant.before_is;
      after_is = c.in_ok-needed.ensures.after_stays ∙ o.invariant.after_is;
      progress
          = followed (length free) free (g.N.Needs.before c.args.needs.now)
          (g.N.Needs.after c.args.needs.now) c.args.requests.now o.next place
          needed.before.items needed.after.items o.found.items c.find_all.new.found.items
          c.find_all-in-loop-next.new.found.items o.marks.items
          c.find_all-in-loop-next.new.seen.items
          p (omega arith) c.index-place.ensures comes_before wanted_after middle last
          (c.in_ok-find_all-2.ensures.marks (c.in_ok-find_all.ensures.marks p.marks))
          (c.in_ok-find_all-2.ensures.long ∙ c.in_ok-find_all.ensures.long ∙ p.long);
      before
          = subst (Follows (g.N.Needs.before c.args.needs.now)
          (take (o.next + 1) c.find_all-in-loop-next.new.found.items))
          (sym c.in_ok-put.ensures.put)
          (follows-more (g.N.Needs.before c.args.needs.now) o.found.items
          c.find_all-in-loop-next.new.found.items o.next place o.before needed.before
          o.invariant.before front (omega arith) c.index-place.ensures
          (omega (arith, low, o.invariant.before_long)) comes_before);
      after
          = subst (Follows (g.N.Needs.after c.args.needs.now)
          (take (o.next + 1) c.find_all-in-loop-next.new.found.items))
          (sym c.in_ok-put-2.ensures.put)
          (follows-more (g.N.Needs.after c.args.needs.now) o.found.items
          c.find_all-in-loop-next.new.found.items o.next place o.after needed.after
          o.invariant.after front (omega arith) c.index-place.ensures
          (omega (arith, low, o.invariant.after_long)) wanted_after);
      before_long
          = ap length c.in_ok-put.ensures.put ∙ length-set o.before place needed.before
          ∙ o.invariant.before_long;
      after_long
          = ap length c.in_ok-put-2.ensures.put ∙ length-set o.after place needed.after
          ∙ o.invariant.after_long;
      before_inside
          = subst (Inside (length c.args.free.now)) (sym c.in_ok-put.ensures.put)
          (inside-set (length c.args.free.now) o.before place needed.before
          o.invariant.before_inside
          (subst (λ n. All (λ y. y < n) needed.before.items) low_count
          c.in_ok-needed.ensures.before_inside));
      after_inside
          = subst (Inside (length c.args.free.now)) (sym c.in_ok-put-2.ensures.put)
          (inside-set (length c.args.free.now) o.after place needed.after
          o.invariant.after_inside
          (subst (λ n. All (λ y. y < n) needed.after.items) low_count
          c.in_ok-needed.ensures.after_inside));
    }

pub returns-clause-planned : goal.returns-clause-planned
returns-clause-planned g c =
    let o = c.loop-next in
    let p = c.loop-next.invariant.progress in
    let free = c.args.free.now in
    let before = g.N.Needs.before c.args.needs.now in
    let after = g.N.Needs.after c.args.needs.now in
    let l : length c.loop-next.found.items ≤ c.loop-next.next
    = omega (arith, c.len.ensures, c.loop-next.found.ok.0) in
    let n : length c.args.free.now ≡ g.N.Needs.count c.args.needs.now = c.requires.free in
    record {
      marks
          = ended (length free) free before after c.args.requests.now o.next o.found.items
          o.marks.items p l refl;
      comes_before
          = planned-follows (length free) free before after before c.args.requests.now o.next
          o.found.items o.marks.items o.before p l o.invariant.before;
      wanted_after
          = planned-follows (length free) free before after after c.args.requests.now o.next
          o.found.items o.marks.items o.after p l o.invariant.after;
      marks_long = p.long ∙ n;
      before_long = o.invariant.before_long ∙ n;
      after_long = o.invariant.after_long ∙ n;
      before_inside = subst (λ k. Inside k c.loop-next.before) n o.invariant.before_inside;
      after_inside = subst (λ k. Inside k c.loop-next.after) n o.invariant.after_inside;
    }
