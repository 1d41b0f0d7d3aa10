use Rattle.std.proofs.Common.{ℕ, List}
use Rattle.std.specs.Prelude.{Ok, Err}
use Rattle.std.proofs.lemmas.Result.{err_from_is_err_and}
use Rattle.remove_plan.specs.declared.step.RemoveStep.{RemoveStep}
use Rattle.km_course.proofs.Steps.{next, exits, answered}
use Rattle.km_course.proofs.Following.{along}
use Rattle.km_course.specs.Course.{given}
use Rattle.stages_known.specs.Named.{names_outcome}
use Rattle.command_remove.specs.Remove.{steps_outcome}
use Rattle.command_remove.proofs.RemoveSteps.{after_names, after_steps}
use Rattle.command_remove.proofs.TakenLemmas.{can-be-taken-out}
use Rattle.command_remove.proofs.course.remove_names.Goals as goal

pub carry_out-requires : goal.carry_out-requires
carry_out-requires g c =
    let known = c.args.known.now in
    can-be-taken-out c.args.listed.now known.rules c.args.removal.now.ignore_remove
    c.in_ok-names.names c.in_ok-steps.steps c.requires c.in_ok-steps.ensures

pub returns-in_err-names : goal.returns-in_err-names
returns-in_err-names g c = λ files err.
    let p = err_from_is_err_and c.from_residual.result c.from_residual.ensures.1 in
    let known = c.args.known.now in
    let removal = c.args.removal.now in
    exits _ _ (after_names removal known c.args.listed.now) p.1 p.2
    (along (λ names. given (names_outcome known removal.use_blacklist names)) _ removal.names
    c.as_slice.ensures
    (answered (λ (x : List (List ℕ)). x)
    (names_outcome known removal.use_blacklist c.as_slice.result.now) _ (Err _)
    c.in_err-names.ensures))

pub returns-in_err-steps : goal.returns-in_err-steps
returns-in_err-steps g c = λ files err.
    let p
    = err_from_is_err_and c.from_residual-in_err-steps.result
    c.from_residual-in_err-steps.ensures.1 in
    let known = c.args.known.now in
    let removal = c.args.removal.now in
    next (after_names removal known c.args.listed.now)
    (along (λ names. given (names_outcome known removal.use_blacklist names)) _ removal.names
    c.as_slice.ensures
    (answered (λ (x : List (List ℕ)). x)
    (names_outcome known removal.use_blacklist c.as_slice.result.now) _
    (Ok c.in_ok-names.names) c.in_ok-names.ensures))
    (exits _ _ (after_steps removal.dry_run c.args.listed.now) p.1 p.2
    (answered (λ (x : List RemoveStep). x)
    (steps_outcome c.args.listed.now known.rules removal.ignore_remove c.in_ok-names.names)
    _ (Err _) c.in_err-steps.ensures))

pub returns : goal.returns
returns g c = λ files err.
    let known = c.args.known.now in
    let removal = c.args.removal.now in
    next (after_names removal known c.args.listed.now)
    (along (λ names. given (names_outcome known removal.use_blacklist names)) _ removal.names
    c.as_slice.ensures
    (answered (λ (x : List (List ℕ)). x)
    (names_outcome known removal.use_blacklist c.as_slice.result.now) _
    (Ok c.in_ok-names.names) c.in_ok-names.ensures))
    (next (after_steps removal.dry_run c.args.listed.now)
    (answered (λ (x : List RemoveStep). x)
    (steps_outcome c.args.listed.now known.rules removal.ignore_remove c.in_ok-names.names)
    _ (Ok c.in_ok-steps.steps) c.in_ok-steps.ensures)
    (c.carry_out.ensures files err))
