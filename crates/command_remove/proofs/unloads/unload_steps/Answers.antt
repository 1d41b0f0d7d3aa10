use Rattle.std.proofs.Common.{◌≡◌, ◌+◌, ◌≤◌, ◌∷◌, ℕ, List, length, drop, sym, subst}
use Rattle.std.specs.Prelude.{⊤}
use Rattle.std.proofs.lemmas.Result.{err_from_is_err_and}
use Rattle.remove_plan.specs.declared.step.RemoveStep.{RemoveStep}
use Rattle.km_course.specs.Course.{each_from}
use Rattle.km_course.specs.World.{world}
use Rattle.km_course.proofs.Steps.{LeadsTo, exits, leads-on, leads-start}
use Rattle.km_course.proofs.Following.{leads-done, next-item}
use Rattle.command_remove.specs.Remove.{unloads_one}
use Rattle.command_remove.specs.Taken.{CanBeTakenOut}
use Rattle.command_remove.proofs.OutLemmas.{first-out, rest-out}
use Rattle.command_remove.proofs.unloads.unload_steps.Goals as goal

pub loop-step-init : goal.loop-step-init
loop-step-init g c = record {
  leads = λ files err left. leads-start (λ (done : ⊤). left) _ _;
  rest
      = subst (λ (end : ℕ). CanBeTakenOut c.args.machine.now end c.args.steps.now)
      (sym c.module_count-end.ensures) c.requires;
}

pub unload_one-requires : goal.unload_one-requires
unload_one-requires g c =
    let steps = c.args.steps.now in
    let i = c.loop-step.step-index in
    let step = c.step-item.result in
    let cut : drop i steps ≡ step ∷ drop (i + 1) steps =
    subst (λ (all : List RemoveStep). drop i all ≡ step ∷ drop (i + 1) all)
    c.as_slice-step-items.ensures
    (next-item c.as_slice-step-items.result.now i step c.loop-step-test.true c.step-item.is) in
    first-out c.loop-step.machine c.loop-step.end step (drop (i + 1) steps)
    (subst (CanBeTakenOut c.loop-step.machine c.loop-step.end) cut c.loop-step.invariant.rest)

pub returns-in_err-end : goal.returns-in_err-end
returns-in_err-end g c = λ files err.
    let p = err_from_is_err_and c.from_residual.result c.from_residual.ensures.1 in
    let steps = c.args.steps.now in
    let i = c.loop-step.step-index in
    let step = c.step-item.result in
    let cut : drop i steps ≡ step ∷ drop (i + 1) steps =
    subst (λ (all : List RemoveStep). drop i all ≡ step ∷ drop (i + 1) all)
    c.as_slice-step-items.ensures
    (next-item c.as_slice-step-items.result.now i step c.loop-step-test.true c.step-item.is) in
    subst (λ ss. LeadsTo (λ (done : ⊤). c.unload_one.new.machine)
    (each_from unloads_one c.args.machine.now steps)
    (world files (g.O.Out.seen c.args.out.now) err)
    (each_from unloads_one c.loop-step.machine ss)
    (world files (g.O.Out.seen c.loop-step.out) err))
    cut (c.loop-step.invariant.leads files err c.unload_one.new.machine) _ _
    (exits _ _ (λ next. each_from unloads_one next (drop (i + 1) steps)) p.1 p.2
    (c.in_err-end.ensures.follows files err))

pub loop-step-preserved : goal.loop-step-preserved
loop-step-preserved g c =
    let steps = c.args.steps.now in
    let i = c.loop-step.step-index in
    let step = c.step-item.result in
    let cut : drop i steps ≡ step ∷ drop (i + 1) steps =
    subst (λ (all : List RemoveStep). drop i all ≡ step ∷ drop (i + 1) all)
    c.as_slice-step-items.ensures
    (next-item c.as_slice-step-items.result.now i step c.loop-step-test.true c.step-item.is) in
    record {
      leads = λ files err left.
          leads-on (λ (done : ⊤). left) _ _ _ _ unloads_one c.loop-step.machine step
          (drop (i + 1) steps) c.in_ok-end.end
          (subst (λ ss. LeadsTo (λ (done : ⊤). left)
          (each_from unloads_one c.args.machine.now steps)
          (world files (g.O.Out.seen c.args.out.now) err)
          (each_from unloads_one c.loop-step.machine ss)
          (world files (g.O.Out.seen c.loop-step.out) err))
          cut (c.loop-step.invariant.leads files err left))
          (c.in_ok-end.ensures.follows files err);
      rest
          = rest-out c.loop-step.machine c.unload_one.new.machine c.loop-step.end c.in_ok-end.end
          step (drop (i + 1) steps)
          (subst (CanBeTakenOut c.loop-step.machine c.loop-step.end) cut c.loop-step.invariant.rest)
          c.in_ok-end.ensures.place c.in_ok-end.ensures.after;
    }

pub returns : goal.returns
returns g c = λ files err.
    leads-done (λ (done : ⊤). c.loop-step.machine) _ _ _ unloads_one tt c.args.steps.now
    c.loop-step.step-index
    (subst (λ (all : List RemoveStep). length all ≤ c.loop-step.step-index)
    c.as_slice-step-items.ensures c.loop-step-test.false)
    (c.loop-step.invariant.leads files err c.loop-step.machine)
