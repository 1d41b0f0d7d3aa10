use Rattle.std.proofs.lemmas.Result.{err_from_is_err_and}
use Rattle.index_read.specs.Contents.{contents}
use Rattle.dependency_lines.proofs.Faults.{right}
use Rattle.plan_builder.specs.Sources.{sources}
use Rattle.plan_builder.proofs.Obstacles.{when-fault}
use Rattle.plan_builder.proofs.planning.plan.Goals as goal

pub returns-in_err-lines-clause-err : goal.returns-in_err-lines-clause-err
returns-in_err-lines-clause-err c =
    let s
    = sources c.args.rules.now c.args.indexes.now c.args.unmet.now c.args.loaded.now
    c.args.request.now in
    let request = c.args.request.now in
    let p = err_from_is_err_and c.from_residual.result c.from_residual.ensures.1 in
    rw (p.1, p.2)
    (when-fault s request c.in_err-lines.field-0.0 c.in_err-lines.ensures.err)

pub returns-in_err-modules-clause-err : goal.returns-in_err-modules-clause-err
returns-in_err-modules-clause-err c =
    let s
    = sources c.args.rules.now c.args.indexes.now c.args.unmet.now c.args.loaded.now
    c.args.request.now in
    let request = c.args.request.now in
    let p
    = err_from_is_err_and c.from_residual-in_err-modules.result
    c.from_residual-in_err-modules.ensures.1 in
    rw (p.1, p.2)
    (when-fault s request c.in_err-modules.field-0.0
    (right (λ e. e (contents c.args.indexes.now.dep.nodes) c.in_ok-lines.ensures.lines)
    c.in_err-modules.ensures.err))

pub planned_over-requires-clause-modules : goal.planned_over-requires-clause-modules
planned_over-requires-clause-modules c =
    c.in_ok-modules.ensures.modules (contents c.args.indexes.now.dep.nodes)
    c.in_ok-lines.ensures.lines

pub planned_over-requires-clause-sound : goal.planned_over-requires-clause-sound
planned_over-requires-clause-sound c =
    c.in_ok-modules.ensures.passed (contents c.args.indexes.now.dep.nodes)
    c.in_ok-lines.ensures.lines
