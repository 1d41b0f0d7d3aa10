use Rattle.std.proofs.Common.{ℕ, List}
use Rattle.std.specs.Prelude.{Ok, Err}
use Rattle.std.proofs.lemmas.Result.{err_from_is_err_and}
use Rattle.km_course.specs.Course.{given}
use Rattle.km_course.proofs.Following.{along}
use Rattle.km_course.proofs.Steps.{next, exits, answered}
use Rattle.stages_known.specs.Named.{names_outcome}
use Rattle.command_modprobe.proofs.ResolvedSteps.{after_names}
use Rattle.command_modprobe.proofs.resolve_alias.print_names.Goals as goal

pub returns-in_err-names : goal.returns-in_err-names
returns-in_err-names g c = λ files err.
    let p = err_from_is_err_and c.from_residual.result c.from_residual.ensures.1 in
    let known = c.args.known.now in
    let request = c.args.request.now in
    exits _ _ after_names p.1 p.2
    (along (λ names. given (names_outcome known request.use_blacklist names)) _ request.names
    c.as_slice.ensures
    (answered (λ (x : List (List ℕ)). x)
    (names_outcome known request.use_blacklist c.as_slice.result.now) _ (Err _)
    c.in_err-names.ensures))

pub returns : goal.returns
returns g c = λ files err.
    let known = c.args.known.now in
    let request = c.args.request.now in
    next after_names
    (along (λ names. given (names_outcome known request.use_blacklist names)) _ request.names
    c.as_slice.ensures
    (answered (λ (x : List (List ℕ)). x)
    (names_outcome known request.use_blacklist c.as_slice.result.now) _
    (Ok c.in_ok-names.names) c.in_ok-names.ensures))
    (c.say_names.ensures files err)
