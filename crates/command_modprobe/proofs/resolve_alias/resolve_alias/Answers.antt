use Rattle.std.proofs.Common.{refl}
use Rattle.std.proofs.lemmas.Result.{err_from_is_err_and}
use Rattle.km_course.proofs.Steps.{next, exits}
use Rattle.command_modprobe.specs.Parts.{prints_names}
use Rattle.command_modprobe.specs.Planned.{request_of}
use Rattle.command_modprobe.proofs.ResolvedSteps.{resolves-asked}
use Rattle.command_modprobe.proofs.resolve_alias.resolve_alias.Goals as goal

pub returns-in_err-basis : goal.returns-in_err-basis
returns-in_err-basis g c = λ err.
    let p = err_from_is_err_and c.from_residual.result c.from_residual.ensures.1 in
    let request = request_of c.args.asked in
    resolves-asked c.args.asked request _ _ _ refl
    (exits _ _ (prints_names request) p.1 p.2
    (c.in_err-basis.ensures.known (g.O.Out.seen c.args.out.now) err))

pub returns : goal.returns
returns g c = λ err.
    let request = c.in_ok-basis.basis.request in
    resolves-asked c.args.asked request _ _ _ c.in_ok-basis.ensures.request
    (next (prints_names request) (c.in_ok-basis.ensures.known (g.O.Out.seen c.args.out.now) err)
    (c.print_names.ensures (g.F.Reads.seen c.read_basis.new.files) err))
