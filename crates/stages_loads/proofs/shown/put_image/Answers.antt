use Rattle.std.proofs.Common.{sym, ap}
use Rattle.std.specs.Prelude.{option_copied, ⊤}
use Rattle.std.proofs.lemmas.Result.{err_from_is_err_and}
use Rattle.km_course.specs.Course.{puts}
use Rattle.km_course.proofs.Steps.{wants, gave}
use Rattle.stages_loads.specs.Loads.{puts_image}
use Rattle.km_course.proofs.Following.{along}
use Rattle.stages_loads.proofs.shown.put_image.Goals as goal

pub returns-in-None : goal.returns-in-None
returns-in-None g c = λ out err.
    along (λ images. puts_image images c.args.name.now c.args.image.now) _ _
    (sym (ap option_copied c.in-None.is)) (gave (λ (x : ⊤). x) _ tt)

pub returns-in_err-path-in-Some : goal.returns-in_err-path-in-Some
returns-in_err-path-in-Some g c = λ out err.
    let p = err_from_is_err_and c.from_residual.result c.from_residual.ensures.1 in
    wants _ _ _ _ p.1 p.2

pub returns-in_ok-path-in-Some : goal.returns-in_ok-path-in-Some
returns-in_ok-path-in-Some g c = λ out err.
    along (λ images. puts_image images c.args.name.now c.args.image.now) _ _
    (sym (ap option_copied c.in-Some.is))
    (along (λ path. puts path c.args.image.now) _ _ c.in_ok-path-in-Some.ensures
    (c.put.ensures out err))
