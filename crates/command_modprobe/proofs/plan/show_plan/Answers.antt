use Rattle.std.proofs.Common.{refl}
use Rattle.std.proofs.lemmas.Result.{err_from_is_err_and}
use Rattle.km_course.proofs.Steps.{next, exits}
use Rattle.stages_files.specs.KernelModules.{modules_folder}
use Rattle.command_modprobe.specs.Parts.{prints_plan}
use Rattle.command_modprobe.specs.Planned.{request_of}
use Rattle.command_modprobe.proofs.PlanSteps.{shows-asked}
use Rattle.command_modprobe.proofs.plan.show_plan.Goals as goal

pub returns-in_err-basis : goal.returns-in_err-basis
returns-in_err-basis g c = λ err.
    let p = err_from_is_err_and c.from_residual.result c.from_residual.ensures.1 in
    let asked = c.args.asked in
    let folder = modules_folder asked.dirname asked.version in
    shows-asked asked folder (request_of asked) _ _ _ refl refl
    (exits _ _ (prints_plan folder (request_of asked) asked.mode) p.1 p.2
    (c.in_err-basis.ensures.known (g.O.Out.seen c.args.out.now) err))

pub returns : goal.returns
returns g c = λ err.
    let asked = c.args.asked in
    let basis = c.in_ok-basis.basis in
    shows-asked asked basis.folder basis.request _ _ _ c.in_ok-basis.ensures.folder
    c.in_ok-basis.ensures.request
    (next (prints_plan basis.folder basis.request asked.mode)
    (c.in_ok-basis.ensures.known (g.O.Out.seen c.args.out.now) err)
    (c.print_plan.ensures (g.F.Reads.seen c.read_basis.new.files) err))
