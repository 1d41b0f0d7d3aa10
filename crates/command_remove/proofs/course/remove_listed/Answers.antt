use Rattle.std.specs.Prelude.{reverse}
use Rattle.std.proofs.lemmas.Result.{err_from_is_err_and}
use Rattle.km_course.proofs.Steps.{next, exits}
use Rattle.km_course.proofs.Following.{along}
use Rattle.stages_loads.specs.Listed.{loads_listed}
use Rattle.command_remove.proofs.RemoveSteps.{after_listed}
use Rattle.command_remove.proofs.TakenLemmas.{of-loads}
use Rattle.command_remove.proofs.course.remove_listed.Goals as goal
use Rattle.command_remove.specs.Listed.{well_formed_path}

pub remove_names-requires : goal.remove_names-requires
remove_names-requires g c =
    of-loads c.args.folder.now c.args.known.now.indexes (reverse c.as_slice.result.now) c.requires.0
    c.requires.1 c.args.machine c.in_ok-listed.listed c.requires.2
    (c.in_ok-listed.ensures (g.O.Out.seen c.args.out.now) (g.O.Out.seen c.args.out.now)).comes

pub returns-in_err-listed : goal.returns-in_err-listed
returns-in_err-listed g c = λ err.
    let p = err_from_is_err_and c.from_residual.result c.from_residual.ensures.1 in
    let known = c.args.known.now in
    exits _ _ (after_listed c.args.removal.now known) p.1 p.2
    (along (loads_listed c.args.folder.now
    (well_formed_path known.indexes) c.args.machine) _ known.loaded
    c.as_slice.ensures
    (c.in_err-listed.ensures (g.O.Out.seen c.args.out.now) err))

pub returns : goal.returns
returns g c = λ err.
    let known = c.args.known.now in
    next (after_listed c.args.removal.now known)
    (along (loads_listed c.args.folder.now
    (well_formed_path known.indexes) c.args.machine) _ known.loaded
    c.as_slice.ensures
    (c.in_ok-listed.ensures (g.O.Out.seen c.args.out.now) err))
    (c.remove_names.ensures (g.F.Reads.seen c.take_listed.new.files) err)
