use Rattle.std.proofs.Common.{◌≡◌, ◌∙◌, ◌<◌, ◌-◌, ◌+◌, ◌++◌, ◌∷◌, [], ℕ, Bool, List, length, ap}
use Rattle.std.proofs.Common.{sym, subst, arith, Vec, Global, true, false}
use Rattle.std.specs.Prelude.{All, ◌||◌, ◌&&◌, nat_eq, not}
use Rattle.std.specs.List.{list_any}
use Rattle.std.proofs.lemmas.Bool.{false≢true}
use Rattle.std.proofs.lemmas.List.{with_items_is}
use Rattle.model_loader.specs.Use.{binds}
use Rattle.model_loader.proofs.PlaceLemmas.{all-push}
use Rattle.remove_plan.specs.Marks.{AreUsed, is_marked}
use Rattle.remove_plan.specs.Removal.{among, is_used_only, members_below, removed}
use Rattle.remove_plan.proofs.RemovalLemmas.{pass-first, pass-more}
use Rattle.remove_plan.proofs.MarkLemmas.{above-push, above-same, above-turn, all-inside, goes-is}
use Rattle.remove_plan.proofs.MarkLemmas.{goes-next, marks-first, stays-next, use-is, uses-length}
use Rattle.remove_plan.proofs.MarkLemmas.{uses-within}
use Rattle.remove_plan.proofs.members.removed.Goals as goal
use Rattle.remove_plan.proofs.members.removed.Goals.{then-goes+in_ok-push, else-goes}

pub loop-done-init : goal.loop-done-init
loop-done-init c =
    let machine = c.args.machine.now in
    let r = is_marked c.args.asked.now in
    let count = c.module_count-count.result in
    record {
      counted = c.module_count-count.ensures;
      members
          = pass-first machine r count c.new-going.result.items c.module_count-count.ensures
          c.new-going.ensures.items;
      above
          = λ u member. absurd
          (false≢true
          (sym (ap (λ (l : List ℕ). among l u) c.new-going.ensures.items) ∙ member));
      within
          = subst (λ (l : List ℕ). All (λ (j : ℕ). j < length machine.entries) l)
          (sym c.new-going.ensures.items) (λ k d less. absurd (omega arith));
      used
          = marks-first machine (among c.new-going.result.items) count c.in_ok-used.used.items
          c.module_count-count.ensures
          (c.in_ok-used.ensures.items_if_clones_equal (λ x is. is));
      kept
          = marks-first machine (λ u. not (among c.new-going.result.items u)) count
          c.in_ok-kept.kept.items c.module_count-count.ensures
          (c.in_ok-kept.ensures.items_if_clones_equal (λ x is. is));
    }

pub loop-done-preserved : goal.loop-done-preserved
loop-done-preserved c =
    let machine = c.args.machine.now in
    let r = is_marked c.args.asked.now in
    let n = length machine.entries in
    let count = c.module_count-count.result in
    let done = c.loop-done.done in
    let inv = c.loop-done.invariant in
    let k = count - 1 - done in
    let ks = c.loop-done.going.items in
    let counted : count ≡ n = inv.counted in
    let less : done < count = c.loop-done-test.true in
    let inside : k < n = omega (arith, less, counted) in
    let uses = c.args.uses.now in
    let binds_k : (j : ℕ) → list_any (nat_eq j) c.as_slice-bound.result.now ≡ binds machine k j =
    λ j. ap (list_any (nat_eq j)) c.as_slice-bound.ensures.value
    ∙ use-is machine uses c.requires.uses k j c.index-uses-k.result
    (omega (arith, inside, uses-length machine uses c.requires.uses)) c.index-uses-k.is in
    let tested : c.goes.result ≡ (r k || is_used_only machine (among ks) k) =
    c.goes.ensures
    ∙ ap (λ l. r k || (is_marked l k && not (is_marked c.deref-in-loop-done.result.now k)))
    c.deref.ensures.value
    ∙ ap (λ l. r k || (is_marked c.loop-done.used.items k && not (is_marked l k)))
    c.deref-in-loop-done.ensures.value
    ∙ goes-is machine ks count done less counted r c.loop-done.used.items c.loop-done.kept.items
    inv.used inv.kept in
    elim c.if-goes.branch [
      | then-goes+in_ok-push w ↦
          let items : c.if-goes.going.items ≡ ks ++ k ∷ []
          = ap (λ (v : Vec ℕ Global). v.items) w.going-is ∙ w.in_ok-push.ensures.items in
          let more = w.mark.new.marks in
          let used_items : c.if-goes.used.items ≡ more =
          ap (λ (v : Vec Bool Global). v.items) w.used-is
          ∙ with_items_is c.loop-done.used more
          (w.mark.ensures.counted ∙ w.deref_mut.ensures.len) in
          let kept_items : c.if-goes.kept.items ≡ c.loop-done.kept.items
          = ap (λ (v : Vec Bool Global). v.items) w.kept-is in
          let next =
          goes-next machine ks count done less counted c.loop-done.used.items more
          c.loop-done.kept.items (w.mark.ensures.counted ∙ ap length w.deref_mut.ensures.value)
          (λ j. w.mark.ensures.at j
          ∙ ap (λ l. is_marked l j || list_any (nat_eq j) c.as_slice-bound.result.now)
          w.deref_mut.ensures.value
          ∙ ap (λ b. is_marked c.loop-done.used.items j || b) (binds_k j))
          inv.used inv.kept in
          record {
            counted = counted;
            members =
                ap (members_below machine r (count - (done + 1))) items
                ∙ pass-more machine r count done ks (removed machine r) true less
                (sym w.if-goes.true ∙ tested) inv.members;
            above
                = λ u member. above-push machine ks count done less counted inv.above u
                (sym (ap (λ (l : List ℕ). among l u) items) ∙ member);
            within
                = subst (λ (l : List ℕ). All (λ (j : ℕ). j < n) l) (sym items)
                (all-push n ks k inv.within inside);
            used =
                subst (λ (l : List ℕ). AreUsed machine (among l) (count - (done + 1))
                c.if-goes.used.items) (sym items)
                (subst (AreUsed machine (among (ks ++ k ∷ [])) (count - (done + 1)))
                (sym used_items) next.0);
            kept =
                subst (λ (l : List ℕ). AreUsed machine (λ u. not (among l u)) (count - (done + 1))
                c.if-goes.kept.items) (sym items)
                (subst (AreUsed machine (λ u. not (among (ks ++ k ∷ []) u)) (count - (done + 1)))
                (sym kept_items) next.1);
          }
      | else-goes w ↦
          let items : c.if-goes.going.items ≡ ks = ap (λ (v : Vec ℕ Global). v.items) w.going-is in
          let more = w.mark-else-goes.new.marks in
          let used_items : c.if-goes.used.items ≡ c.loop-done.used.items
          = ap (λ (v : Vec Bool Global). v.items) w.used-is in
          let kept_items : c.if-goes.kept.items ≡ more =
          ap (λ (v : Vec Bool Global). v.items) w.kept-is
          ∙ with_items_is c.loop-done.kept more
          (w.mark-else-goes.ensures.counted ∙ w.deref_mut-else-goes.ensures.len) in
          let next =
          stays-next machine ks count done less counted c.loop-done.used.items
          c.loop-done.kept.items more (above-turn machine ks count done less counted inv.above)
          (w.mark-else-goes.ensures.counted ∙ ap length w.deref_mut-else-goes.ensures.value)
          (λ j. w.mark-else-goes.ensures.at j
          ∙ ap (λ l. is_marked l j || list_any (nat_eq j) c.as_slice-bound.result.now)
          w.deref_mut-else-goes.ensures.value
          ∙ ap (λ b. is_marked c.loop-done.kept.items j || b) (binds_k j))
          inv.used inv.kept in
          record {
            counted = counted;
            members =
                ap (members_below machine r (count - (done + 1))) items
                ∙ pass-more machine r count done ks (removed machine r) false less
                (sym w.if-goes.false ∙ tested) inv.members;
            above
                = λ u member. above-same machine ks count done less counted inv.above u
                (sym (ap (λ (l : List ℕ). among l u) items) ∙ member);
            within = subst (λ (l : List ℕ). All (λ (j : ℕ). j < n) l) (sym items) inv.within;
            used =
                subst (λ (l : List ℕ). AreUsed machine (among l) (count - (done + 1))
                c.if-goes.used.items) (sym items)
                (subst (AreUsed machine (among ks) (count - (done + 1))) (sym used_items) next.0);
            kept =
                subst (λ (l : List ℕ). AreUsed machine (λ u. not (among l u)) (count - (done + 1))
                c.if-goes.kept.items) (sym items)
                (subst (AreUsed machine (λ u. not (among ks u)) (count - (done + 1)))
                (sym kept_items) next.1);
          }
    ]

pub mark-requires : goal.mark-requires
mark-requires c =
    let machine = c.args.machine.now in
    let uses = c.args.uses.now in
    let k = c.module_count-count.result - 1 - c.loop-done.done in
    let inside : k < length machine.entries
    = omega (arith, c.loop-done-test.true, c.loop-done.invariant.counted) in
    all-inside (length machine.entries) (length c.deref_mut.result.now) c.index-uses-k.result.items
    c.as_slice-bound.result.now c.as_slice-bound.ensures.value
    (ap length c.deref_mut.ensures.value ∙ c.loop-done.invariant.used.counted)
    (uses-within machine uses c.requires.uses k c.index-uses-k.result
    (omega (arith, inside, uses-length machine uses c.requires.uses)) inside
    c.index-uses-k.is)

pub mark-requires-else-goes : goal.mark-requires-else-goes
mark-requires-else-goes c =
    let machine = c.args.machine.now in
    let uses = c.args.uses.now in
    let k = c.module_count-count.result - 1 - c.loop-done.done in
    let inside : k < length machine.entries
    = omega (arith, c.loop-done-test.true, c.loop-done.invariant.counted) in
    all-inside (length machine.entries) (length c.deref_mut-else-goes.result.now)
    c.index-uses-k.result.items c.as_slice-bound.result.now c.as_slice-bound.ensures.value
    (ap length c.deref_mut-else-goes.ensures.value ∙ c.loop-done.invariant.kept.counted)
    (uses-within machine uses c.requires.uses k c.index-uses-k.result
    (omega (arith, inside, uses-length machine uses c.requires.uses)) inside
    c.index-uses-k.is)
