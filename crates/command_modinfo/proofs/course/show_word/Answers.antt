use Rattle.std.proofs.Common.{ℕ, List}
use Rattle.std.specs.Prelude.{Ok, Err}
use Rattle.std.proofs.lemmas.Result.{err_from_is_err_and}
use Rattle.km_course.proofs.Steps.{next, exits, answered}
use Rattle.command_modinfo.specs.Modinfo.{path_asked}
use Rattle.command_modinfo.proofs.SourceSteps.{shows_found}
use Rattle.command_modinfo.proofs.course.show_word.Goals as goal

pub returns-in_err-path : goal.returns-in_err-path
returns-in_err-path g c = λ err.
    let p = err_from_is_err_and c.from_residual.result c.from_residual.ensures.1 in
    exits _ _ (shows_found c.args.options.now) p.1 p.2
    (answered (λ (x : List ℕ). x) (path_asked c.args.source.now c.args.word.now) _ (Err _)
    c.in_err-path.ensures)

pub returns : goal.returns
returns g c = λ err.
    next (shows_found c.args.options.now)
    (answered (λ (x : List ℕ). x) (path_asked c.args.source.now c.args.word.now) _
    (Ok c.in_ok-path.path) c.in_ok-path.ensures)
    (c.show_module.ensures err)
