use Rattle.std.proofs.Common.{◌+◌, drop}
use Rattle.std.proofs.lemmas.Result.{err_from_is_err_and}
use Rattle.model_loader.specs.Machine.{Machine}
use Rattle.km_course.proofs.Steps.{exits, leads-on, leads-start}
use Rattle.stages_loads.specs.Loads.{loads_one}
use Rattle.km_course.proofs.Following.{leads-item, leads-done}
use Rattle.stages_loads.proofs.LoadSteps.{loads_others}
use Rattle.stages_loads.proofs.load.load_all.Goals as goal

pub loop-insert-init : goal.loop-insert-init
loop-insert-init g c = λ err. leads-start (λ (x : Machine). x) _ _

pub returns-in_err-machine : goal.returns-in_err-machine
returns-in_err-machine g c = λ err.
    let p = err_from_is_err_and c.from_residual.result c.from_residual.ensures.1 in
    let step = loads_one c.args.folder.now c.args.images.now in
    let inserts = c.args.inserts.now in
    leads-item (λ (x : Machine). x) _ _ _ step c.loop-insert.machine inserts
    c.loop-insert.insert-index c.insert-item.result c.loop-insert-test.true c.insert-item.is
    (c.loop-insert.invariant err) _ _
    (exits _ _ (loads_others c.args.folder.now c.args.images.now
    (drop (c.loop-insert.insert-index + 1) inserts)) p.1 p.2 (c.in_err-machine.ensures err))

pub loop-insert-preserved : goal.loop-insert-preserved
loop-insert-preserved g c = λ err.
    let step = loads_one c.args.folder.now c.args.images.now in
    let inserts = c.args.inserts.now in
    leads-on (λ (x : Machine). x) _ _ _ _ step c.loop-insert.machine c.insert-item.result
    (drop (c.loop-insert.insert-index + 1) inserts) c.in_ok-machine.machine
    (leads-item (λ (x : Machine). x) _ _ _ step c.loop-insert.machine inserts
    c.loop-insert.insert-index c.insert-item.result c.loop-insert-test.true c.insert-item.is
    (c.loop-insert.invariant err))
    (c.in_ok-machine.ensures err)

pub returns : goal.returns
returns g c = λ err.
    leads-done (λ (x : Machine). x) _ _ _ (loads_one c.args.folder.now c.args.images.now)
    c.loop-insert.machine c.args.inserts.now c.loop-insert.insert-index c.loop-insert-test.false
    (c.loop-insert.invariant err)
