use Rattle.std.proofs.Common.{ℕ, List, sym}
use Rattle.std.specs.Prelude.{Option, Some, None}
use Rattle.std.proofs.lemmas.Result.{err_from_is_err_and}
use Rattle.km_course.specs.Course.{◌>>=◌, reads_any}
use Rattle.km_course.proofs.Following.{along}
use Rattle.km_course.proofs.Steps.{chosen, passed_over, next, exits, wants, gave}
use Rattle.command_depmod.proofs.ExtraSteps.{info_given}
use Rattle.command_depmod.proofs.extra.read_info.Goals as goal

pub returns-then-not-extra-clause-follows : goal.returns-then-not-extra-clause-follows
returns-then-not-extra-clause-follows g c = λ out err.
    passed_over (λ (x : Option (List ℕ)). x) _ _ _ _ _ _ (sym c.if-not-extra.true)
    (gave (λ (x : Option (List ℕ)). x) _ None)

pub returns-in_err-file-clause-follows : goal.returns-in_err-file-clause-follows
returns-in_err-file-clause-follows g c = λ out err.
    let p = err_from_is_err_and c.from_residual.result c.from_residual.ensures.1 in
    wants _ _ _ _ p.1 p.2

pub returns-in_err-bytes-clause-follows : goal.returns-in_err-bytes-clause-follows
returns-in_err-bytes-clause-follows g c = λ out err.
    let p
    = err_from_is_err_and c.from_residual-in_err-bytes.result
    c.from_residual-in_err-bytes.ensures.1 in
    chosen (λ (x : Option (List ℕ)). x) _ _ _ _ _ _ (sym c.if-not-extra.false)
    (along (λ file. reads_any file >>= info_given) _ _ c.in_ok-file.ensures
    (exits _ _ info_given p.1 p.2 (c.in_err-bytes.ensures.follows out err)))

pub returns-clause-follows : goal.returns-clause-follows
returns-clause-follows g c = λ out err.
    chosen (λ (x : Option (List ℕ)). x) _ _ _ _ _ _ (sym c.if-not-extra.false)
    (along (λ file. reads_any file >>= info_given) _ _ c.in_ok-file.ensures
    (next info_given (c.in_ok-bytes.ensures.follows out err)
    (gave (λ (x : Option (List ℕ)). x) _ (Some c.in_ok-bytes.bytes))))
