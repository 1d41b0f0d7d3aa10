use Rattle.std.proofs.Common.{ℕ, List, ap, refl}
use Rattle.std.specs.Prelude.{Option}
use Rattle.std.proofs.lemmas.Result.{err_from_is_err_and}
use Rattle.km_course.proofs.Steps.{next, exits}
use Rattle.stages_files.specs.KernelModules.{modules_folder}
use Rattle.stages_loads.specs.declared.shown.Images.{Images}
use Rattle.command_modprobe.specs.Loaded.{images_asked}
use Rattle.command_modprobe.specs.Parts.{loads_known}
use Rattle.command_modprobe.specs.Planned.{request_of}
use Rattle.command_modprobe.proofs.LoadSteps.{loads-asked}
use Rattle.command_modprobe.proofs.load.load_plan.Goals as goal

pub returns-in_err-basis : goal.returns-in_err-basis
returns-in_err-basis g c = λ err.
    let p = err_from_is_err_and c.from_residual.result c.from_residual.ensures.1 in
    let asked = c.args.asked in
    let folder = modules_folder asked.dirname asked.version in
    loads-asked asked folder (images_asked asked) (request_of asked) c.args.system_map asked.symvers
    c.region-region.result _ _ _ refl refl refl refl c.region-region.ensures
    (exits _ _ (loads_known folder (images_asked asked) (request_of asked) c.args.system_map
    asked.symvers c.region-region.result) p.1 p.2
    (c.in_err-basis.ensures.known (g.O.Out.seen c.args.out.now) err))

pub returns : goal.returns
returns g c = λ err.
    let asked = c.args.asked in
    let basis = c.in_ok-basis.basis in
    let symvers = c.take-symvers.result in
    let images : Images = record { folder = c.take.result; params = asked.params } in
    let shown
    = ap (λ (folder : Option (List ℕ)). record { folder = folder; params = asked.params })
    c.take.ensures.value in
    loads-asked asked basis.folder images basis.request c.args.system_map symvers
    c.region-region.result _ _ _
    c.in_ok-basis.ensures.folder shown c.in_ok-basis.ensures.request c.take-symvers.ensures.value
    c.region-region.ensures
    (next (loads_known basis.folder images basis.request c.args.system_map symvers
    c.region-region.result)
    (c.in_ok-basis.ensures.known (g.O.Out.seen c.args.out.now) err)
    (c.load_known.ensures err))
