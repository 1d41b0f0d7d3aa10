use Rattle.std.proofs.Common.{◌≡◌, ◌+◌, ◌-◌, ◌<◌, ◌++◌, map, take, drop, length, ap, sym, ◌∙◌}
use Rattle.std.proofs.Common.{arith, subst}
use Rattle.std.specs.Prelude.{◌||◌, slice_index, OnOk}
use Rattle.name_table.specs.FirstSeen.{is_among}
use Rattle.name_lookup.specs.declared.found.Found.{Found}
use Rattle.std.proofs.lemmas.List.{get_or_default}
use Rattle.plan_sources.specs.Planner.{sources_of}
use Rattle.plan_builder.specs.Steps.{own_steps, module_step}
use Rattle.plan_builder.specs.Ends.{steps_by}
use Rattle.plan_builder.proofs.StepLaws.{steps-next, steps-past, rest-slice}
use Rattle.plan_builder.proofs.steps.Stepping.push_groups_after.Goals as goal

pub loop-k-preserved : goal.loop-k-preserved
loop-k-preserved c =
    let s = sources_of c.args.self.now.planner.now in
    let request = c.args.self.now.request.now in
    let o = c.loop-k in
    let ends = c.args.plan.now.ends.items in
    let order = c.args.plan.now.order.items in
    let founds = c.args.founds.now in
    let l : c.loop-k.k < length c.args.plan.now.ends.items = omega (arith, c.requires.long) in
    let e : c.index-end.result.now ≡ slice_index c.args.plan.now.ends.items c.loop-k.k
    = c.index-end.ensures ∙ get_or_default ends o.k c.index-end.result.now 0 l in
    record {
      steps =
          ap (λ xs. xs
          ++ steps_by s request c.insert_all.new.names c.index-end.result.now
          (drop (o.k + 1) founds) (drop (o.k + 1) ends) order)
          (c.in_ok-push_modules.ensures
          ∙ (λ i. (c.in_ok-push_own_steps.ensures
          ∙ ap (λ (f : Found). o.steps ++ own_steps s request o.earlier f.names)
          (sym c.index-founds-k.is)) i
          ++ map (module_step s request)
          (take (e i - o.start) (drop o.start (c.deref.ensures.value i)))))
          ∙ ap (λ n. ((o.steps ++ own_steps s request o.earlier c.index-founds-k.result.names)
          ++ map (module_step s request)
          (take (slice_index ends o.k - o.start) (drop o.start order)))
          ++ steps_by s request c.insert_all.new.names n (drop (o.k + 1) founds)
          (drop (o.k + 1) ends) order) e
          ∙ steps-next s request o.steps o.earlier c.insert_all.new.names o.start o.k founds
          c.index-founds-k.result ends order c.loop-k-test.true l c.index-founds-k.is
          (λ name. c.in_ok-insert_all.ensures name
          ∙ ap (λ (f : Found). is_among o.earlier name || is_among f.names name)
          (sym c.index-founds-k.is))
          ∙ o.invariant.steps;
      within = let w = c.requires.ends.within c.loop-k.k l in omega (arith, w, e);
      before = λ m. let w = c.requires.ends.rising c.loop-k.k m in omega (arith, w, e);
    }

pub returns : goal.returns
returns c =
    let s = sources_of c.args.self.now.planner.now in
    let request = c.args.self.now.request.now in
    let o = c.loop-k in
    let order = c.args.plan.now.order.items in
    subst (λ xs. OnOk c.push_modules-2.result (c.push_modules-2.new.steps ≡ xs))
    (ap (λ xs. o.steps ++ map (module_step s request) xs)
    (rest-slice c.deref-2.result.now order o.start (length c.deref-2.result.now)
    c.deref-2.ensures.value (omega arith))
    ∙ ap (λ xs. o.steps ++ xs)
    (sym (steps-past s request o.earlier o.start o.k c.args.founds.now
    (drop o.k c.args.plan.now.ends.items) order (omega arith)))
    ∙ o.invariant.steps)
    c.push_modules-2.ensures
