use Rattle.std.specs.Prelude.{⊤}
use Rattle.std.proofs.lemmas.Result.{err_from_is_err_and}
use Rattle.stages_files.specs.KernelModules.{path_listed}
use Rattle.km_course.proofs.Steps.{next, exits, gave}
use Rattle.km_course.proofs.Following.{along}
use Rattle.stages_loads.specs.Listed.{loads_listed}
use Rattle.stages_loads.specs.Loads.{loads_all}
use Rattle.command_modprobe.proofs.LoadSteps.{after_listed, after_lines, after_loads}
use Rattle.command_modprobe.proofs.load.load_steps.Goals as goal

pub returns-in_err-listed : goal.returns-in_err-listed
returns-in_err-listed g c = λ err.
    let p = err_from_is_err_and c.from_residual.result c.from_residual.ensures.1 in
    let known = c.args.basis.now.known in
    exits _ _
    (after_listed c.args.basis.now.folder c.args.images.now c.args.steps.now c.args.inserts.now)
    p.1 p.2
    (along (loads_listed c.args.basis.now.folder
    (path_listed known.indexes.dep) c.args.machine) _ known.loaded
    c.as_slice.ensures
    (c.in_err-listed.ensures (g.O.Out.seen c.args.out.now) err))

pub returns-in_err-say_plan : goal.returns-in_err-say_plan
returns-in_err-say_plan g c = λ err.
    let p
    = err_from_is_err_and c.from_residual-in_err-say_plan.result
    c.from_residual-in_err-say_plan.ensures.1 in
    let known = c.args.basis.now.known in
    let listed = c.in_ok-listed.listed in
    next
    (after_listed c.args.basis.now.folder c.args.images.now c.args.steps.now c.args.inserts.now)
    (along (loads_listed c.args.basis.now.folder
    (path_listed known.indexes.dep) c.args.machine) _ known.loaded
    c.as_slice.ensures
    (c.in_ok-listed.ensures (g.O.Out.seen c.args.out.now) err))
    (exits _ _ (after_lines c.args.basis.now.folder c.args.images.now listed c.args.inserts.now) p.1
    p.2
    (c.in_err-say_plan.ensures (g.F.Reads.seen c.load_listed.new.files) err))

pub returns-in_err-load_all : goal.returns-in_err-load_all
returns-in_err-load_all g c = λ err.
    let p
    = err_from_is_err_and c.from_residual-in_err-load_all.result
    c.from_residual-in_err-load_all.ensures.1 in
    let known = c.args.basis.now.known in
    let listed = c.in_ok-listed.listed in
    next
    (after_listed c.args.basis.now.folder c.args.images.now c.args.steps.now c.args.inserts.now)
    (along (loads_listed c.args.basis.now.folder
    (path_listed known.indexes.dep) c.args.machine) _ known.loaded
    c.as_slice.ensures
    (c.in_ok-listed.ensures (g.O.Out.seen c.args.out.now) err))
    (next (after_lines c.args.basis.now.folder c.args.images.now listed c.args.inserts.now)
    (c.in_ok-say_plan.ensures (g.F.Reads.seen c.load_listed.new.files) err)
    (exits _ _ after_loads p.1 p.2
    (along (loads_all c.args.basis.now.folder c.args.images.now listed) _ c.args.inserts.now
    c.as_slice-2.ensures
    (c.in_err-load_all.ensures err))))

pub returns : goal.returns
returns g c = λ err.
    let known = c.args.basis.now.known in
    let listed = c.in_ok-listed.listed in
    next
    (after_listed c.args.basis.now.folder c.args.images.now c.args.steps.now c.args.inserts.now)
    (along (loads_listed c.args.basis.now.folder
    (path_listed known.indexes.dep) c.args.machine) _ known.loaded
    c.as_slice.ensures
    (c.in_ok-listed.ensures (g.O.Out.seen c.args.out.now) err))
    (next (after_lines c.args.basis.now.folder c.args.images.now listed c.args.inserts.now)
    (c.in_ok-say_plan.ensures (g.F.Reads.seen c.load_listed.new.files) err)
    (next after_loads
    (along (loads_all c.args.basis.now.folder c.args.images.now listed) _ c.args.inserts.now
    c.as_slice-2.ensures
    (c.in_ok-load_all.ensures err))
    (gave (λ (x : ⊤). x) _ tt)))
