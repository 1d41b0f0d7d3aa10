use Rattle.std.proofs.Common.{refl, sym, subst, ◌∙◌}
use Rattle.std.specs.Prelude.{Err, ⊤}
use Rattle.std.proofs.lemmas.Result.{err_from_is_err_and}
use Rattle.km_course.specs.World.{world}
use Rattle.km_course.specs.Course.Outcome.{end}
use Rattle.km_course.specs.Follows.{Answers, Follows}
use Rattle.km_course.specs.declared.end.End.TheVariants.{NotUnderstood}
use Rattle.km_course.proofs.Steps.{wants, answered}
use Rattle.km_course.specs.Course.{if_understood}
use Rattle.command_modinfo.specs.Modinfo.{shows_asked}
use Rattle.command_modinfo.proofs.course.modinfo.Goals as goal

pub returns-in_err-asked : goal.returns-in_err-asked
returns-in_err-asked g c = λ err.
    let p = err_from_is_err_and c.from_residual.result c.from_residual.ensures.1 in
    wants _ _ _ _ p.1 p.2

pub returns-in-Some : goal.returns-in-Some
returns-in-Some g c = λ err.
    subst (λ asked. Follows (λ (x : ⊤). x) (if_understood shows_asked asked)
    (world (g.F.Reads.seen c.args.files.now) (g.O.Out.seen c.args.out.now) err)
    (world (g.F.Reads.seen c.show_asked.new.files) (g.O.Out.seen c.show_asked.new.out) err)
    c.show_asked.result)
    (sym c.in-Some.is ∙ c.in_ok-asked.ensures)
    (c.show_asked.ensures err)

pub returns-in-None : goal.returns-in-None
returns-in-None g c = λ err.
    subst (λ asked. Follows (λ (x : ⊤). x) (if_understood shows_asked asked)
    (world (g.F.Reads.seen c.args.files.now) (g.O.Out.seen c.args.out.now) err)
    (world (g.F.Reads.seen c.args.files.now) (g.O.Out.seen c.args.out.now) err)
    (Err c.from.result))
    (sym c.in-None.is ∙ c.in_ok-asked.ensures)
    (answered (λ (x : ⊤). x) (end NotUnderstood) _ (Err c.from.result)
    (subst (λ stop. Answers (λ (x : ⊤). x) (end NotUnderstood) (Err stop)) (sym c.from.ensures)
    refl))
