use Rattle.std.proofs.Common.{◌+◌, ◌++◌, take, ap, sym, ◌∙◌, append_assoc}
use Rattle.plan_builder.specs.Steps.{own_step_unless, own_steps}
use Rattle.plan_sources.specs.Planner.{sources_of}
use Rattle.planned_modules.proofs.Finds.{flat-more}
use Rattle.plan_builder.proofs.steps.Stepping.push_own_steps.Goals as goal

pub loop-name-preserved : goal.loop-name-preserved
loop-name-preserved c =
    let s = sources_of c.args.self.now.planner.now in
    let one = own_step_unless s c.args.self.now.request.now c.args.earlier.now in
    let names = c.as_slice-name-items.result.now in
    let i = c.loop-name.name-index in
    c.in_ok-push_unless.ensures
    ∙ (λ j. (c.loop-name.invariant
    ∙ ap (λ ns. c.args.steps.now
    ++ own_steps s c.args.self.now.request.now c.args.earlier.now (take i ns))
    (sym c.as_slice-name-items.ensures)) j
    ++ one (c.as_bytes.ensures j))
    ∙ append_assoc c.args.steps.now
    (own_steps s c.args.self.now.request.now c.args.earlier.now (take i names))
    (one c.name-item.result)
    ∙ ap (λ xs. c.args.steps.now ++ xs)
    (sym (flat-more one names i c.name-item.result c.loop-name-test.true c.name-item.is))
    ∙ ap (λ ns. c.args.steps.now
    ++ own_steps s c.args.self.now.request.now c.args.earlier.now (take (i + 1) ns))
    c.as_slice-name-items.ensures
