use Rattle.std.proofs.Common.{refl}
use Rattle.std.proofs.lemmas.Result.{err_from_is_err_and}
use Rattle.km_course.proofs.Steps.{wants}
use Rattle.kmod_words.specs.declared.modprobe.Mode.TheVariants.{DryRun, ResolveAlias, ShowDepends}
use Rattle.command_modprobe.specs.Planned.{shows_plan}
use Rattle.command_modprobe.specs.Resolved.{resolves_alias}
use Rattle.command_modprobe.proofs.CourseSteps.{loads-in, of-mode, removes-in, same-course}
use Rattle.command_modprobe.proofs.course.in_mode.Goals as goal

pub returns-in-ResolveAlias : goal.returns-in-ResolveAlias
returns-in-ResolveAlias g c = λ err.
    let asked = c.args.asked in
    same-course (of-mode asked (resolves_alias asked) ResolveAlias asked.mode c.in-ResolveAlias.is
    (λ fits. refl) asked.fits) (c.resolve_alias.ensures err)

pub returns-in_ok-system_map-in-Load : goal.returns-in_ok-system_map-in-Load
returns-in_ok-system_map-in-Load g c = λ err.
    let asked = c.args.asked in
    let given = c.in_ok-system_map-in-Load in
    same-course (loads-in asked given.system_map asked.mode c.in-Load.is given.ensures asked.fits)
    (c.load_plan.ensures err)

pub returns-in_err-system_map-in-Load : goal.returns-in_err-system_map-in-Load
returns-in_err-system_map-in-Load g c = λ err.
    let p = err_from_is_err_and c.from_residual.result c.from_residual.ensures.1 in
    wants _ _ _ _ p.1 p.2

pub returns-in-DryRun : goal.returns-in-DryRun
returns-in-DryRun g c = λ err.
    let asked = c.args.asked in
    same-course (of-mode asked (shows_plan asked) DryRun asked.mode c.in-DryRun.is (λ fits. refl)
    asked.fits) (c.show_plan.ensures err)

pub returns-in-ShowDepends : goal.returns-in-ShowDepends
returns-in-ShowDepends g c = λ err.
    let asked = c.args.asked in
    same-course (of-mode asked (shows_plan asked) ShowDepends asked.mode c.in-ShowDepends.is
    (λ fits. refl) asked.fits) (c.show_plan-in-ShowDepends.ensures err)

pub returns-in_ok-system_map-in-Remove : goal.returns-in_ok-system_map-in-Remove
returns-in_ok-system_map-in-Remove g c = λ err.
    let asked = c.args.asked in
    let given = c.in_ok-system_map-in-Remove in
    same-course (removes-in c.in-Remove.dry_run asked given.system_map asked.mode c.in-Remove.is
    given.ensures asked.fits) (c.remove.ensures err)

pub returns-in_err-system_map-in-Remove : goal.returns-in_err-system_map-in-Remove
returns-in_err-system_map-in-Remove g c = λ err.
    let p
    = err_from_is_err_and c.from_residual-in_err-system_map-in-Remove.result
    c.from_residual-in_err-system_map-in-Remove.ensures.1 in
    wants _ _ _ _ p.1 p.2
