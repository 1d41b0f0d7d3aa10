use Rattle.std.proofs.Common.{length, ap, ◌∙◌}
use Rattle.std.specs.Option.{option_map}
use Rattle.std.proofs.lemmas.Result.{err_from_is_err_and}
use Rattle.plan_order.specs.Lists.{among}
use Rattle.dependency_lines.proofs.Faults.{right}
use Rattle.plan_sources.specs.Sources.{modules}
use Rattle.planned_modules.specs.Needs.{before, after, unloaded}
use Rattle.planned_modules.specs.Members.{asked}
use Rattle.plan_builder.specs.Obstacles.{as_obstacle}
use Rattle.plan_sources.specs.Planner.{sources_of}
use Rattle.plan_builder.proofs.Answering.{cycle-answer, plan-answer, short-answer, unloaded-low}
use Rattle.plan_builder.proofs.NoLines.{no-lines}
use Rattle.plan_builder.proofs.planning.order_without_lines.Goals as goal

pub order_of-requires : goal.order_of-requires
order_of-requires c =
    let s = sources_of c.args.planner.now in
    short-answer (modules s) (among (before s)) (unloaded s) (after s) (asked s c.args.founds.now)
    (length (modules s)) c.args.answer (unloaded-low s) c.requires.answer

pub returns-in_err-order-clause-err : goal.returns-in_err-order-clause-err
returns-in_err-order-clause-err c =
    let s = sources_of c.args.planner.now in
    let founds = c.args.founds.now in
    let p = err_from_is_err_and c.from_residual.result c.from_residual.ensures.1 in
    rw (p.1, p.2)
    (right (λ e.
    ap (option_map as_obstacle) (no-lines s founds c.requires.lines)
    ∙ cycle-answer (modules s) (among (before s)) (unloaded s) (after s) (asked s founds)
    c.args.answer c.in_err-order.field-0.0 c.requires.answer e)
    c.in_err-order.ensures.err)

pub returns-clause-passed : goal.returns-clause-passed
returns-clause-passed c =
    let s = sources_of c.args.planner.now in
    let founds = c.args.founds.now in
    no-lines s founds c.requires.lines
    ∙ plan-answer (modules s) (among (before s)) (unloaded s) (after s) (asked s founds)
    c.args.answer c.in_ok-order.order c.requires.answer c.in_ok-order.ensures.order
