use Rattle.std.proofs.Common.{refl, sym, subst, ◌∙◌}
use Rattle.std.specs.Prelude.{Err, ⊤}
use Rattle.std.proofs.lemmas.Result.{err_from_is_err_and}
use Rattle.km_course.specs.Course.Outcome.{end}
use Rattle.km_course.specs.Follows.{Answers}
use Rattle.km_course.specs.declared.end.End.TheVariants.{NotUnderstood}
use Rattle.km_course.proofs.Steps.{wants, answered}
use Rattle.command_depmod.specs.Depmod.{indexes}
use Rattle.km_course.proofs.Following.{along}
use Rattle.km_course.specs.Course.{if_understood}
use Rattle.command_depmod.proofs.course.depmod.Goals as goal

pub returns-in_err-asked : goal.returns-in_err-asked
returns-in_err-asked g c =
    let p = err_from_is_err_and c.from_residual.result c.from_residual.ensures.1 in
    wants _ _ _ _ p.1 p.2

pub returns-in-Some : goal.returns-in-Some
returns-in-Some g c =
    along (if_understood indexes) _ _ (sym c.in-Some.is ∙ c.in_ok-asked.ensures) c.index.ensures

pub returns-in-None : goal.returns-in-None
returns-in-None g c =
    along (if_understood indexes) _ _ (sym c.in-None.is ∙ c.in_ok-asked.ensures)
    (answered (λ (x : ⊤). x) (end NotUnderstood) _ (Err c.from.result)
    (subst (λ stop. Answers (λ (x : ⊤). x) (end NotUnderstood) (Err stop)) (sym c.from.ensures)
    refl))
