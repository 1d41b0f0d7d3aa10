use Rattle.std.proofs.lemmas.Result.{err_from_is_err_and}
use Rattle.km_course.proofs.Steps.{next, exits}
use Rattle.command_remove.proofs.RemoveSteps.{after_machine}
use Rattle.command_remove.proofs.TakenLemmas.{new-made}
use Rattle.command_remove.proofs.course.remove_known.Goals as goal

pub remove_listed-requires : goal.remove_listed-requires
remove_listed-requires g c =
    let h
    = new-made c.args.system_map c.args.symvers c.args.region c.in_ok-machine.machine
    (c.in_ok-machine.ensures (g.O.Out.seen c.args.out.now)
    (g.O.Out.seen c.args.out.now)).comes in
    (h.0, c.args.region, h.1)

pub returns-in_err-machine : goal.returns-in_err-machine
returns-in_err-machine g c = λ err.
    let p = err_from_is_err_and c.from_residual.result c.from_residual.ensures.1 in
    exits _ _ (after_machine c.args.folder.now c.args.removal.now c.args.known.now) p.1 p.2
    (c.in_err-machine.ensures (g.O.Out.seen c.args.out.now) err)

pub returns : goal.returns
returns g c = λ err.
    next (after_machine c.args.folder.now c.args.removal.now c.args.known.now)
    (c.in_ok-machine.ensures (g.O.Out.seen c.args.out.now) err)
    (c.remove_listed.ensures err)
