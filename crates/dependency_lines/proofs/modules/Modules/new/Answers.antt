use Rattle.std.proofs.Common.{ap, sym, subst, ◌∙◌}
use Rattle.std.specs.Prelude.{is_some}
use Rattle.std.specs.Option.{option_map}
use Rattle.std.proofs.lemmas.Result.{err_from_is_err_and}
use Rattle.dependency_lines.specs.Modules.{bad_among, by_number, place_of}
use Rattle.dependency_lines.specs.GoodPaths.{AreOwnGood}
use Rattle.dependency_lines.specs.Tables.{AreLines}
use Rattle.dependency_lines.specs.declared.fault.LineFault.TheVariants.{BadLine}
use Rattle.dependency_lines.proofs.Faults.{right}
use Rattle.dependency_lines.proofs.Firsts.{has-same, modules-are}
use Rattle.dependency_lines.proofs.Own.{all-own-good}
use Rattle.dependency_lines.proofs.modules.Modules.new.Goals as goal

pub check_needs-requires-clause-own : goal.check_needs-requires-clause-own
check_needs-requires-clause-own c =
    let kept = c.lines-kept.result.now in
    let begin
    = subst (λ ls. AreLines ls) (sym c.lines-kept.ensures.same) c.lines-kept.ensures.are in
    subst (AreOwnGood (λ name. is_some (place_of c.in_ok-modules.modules name)))
    (sym c.in_ok-own.ensures)
    (all-own-good kept c.in_ok-modules.modules c.in_ok-modules.ensures begin.begin)

pub returns-clause-modules : goal.returns-clause-modules
returns-clause-modules c dep is =
    c.in_ok-modules.ensures
    ∙ ap by_number (c.lines-kept.ensures.same ∙ is)
    ∙ modules-are dep

pub returns-clause-passed : goal.returns-clause-passed
returns-clause-passed c dep is =
    let has
    = ap (λ ms name. is_some (place_of ms name)) (returns-clause-modules c dep is)
    ∙ has-same dep in
    let firsts = c.lines-kept.ensures.same ∙ is in
    sym (λ i. bad_among (has i) (firsts i)) ∙ c.in_ok-check_needs.ensures.passed

pub returns-in_err-check_needs-clause-err : goal.returns-in_err-check_needs-clause-err
returns-in_err-check_needs-clause-err c =
    let p
    = err_from_is_err_and c.from_residual-in_err-check_needs.result
    c.from_residual-in_err-check_needs.ensures.1 in
    rw (p.1, p.2)
    (right (λ e dep is.
    let firsts = c.lines-kept.ensures.same ∙ is in
    let mods = c.in_ok-modules.ensures ∙ ap by_number firsts ∙ modules-are dep in
    let has = ap (λ ms name. is_some (place_of ms name)) mods ∙ has-same dep in
    sym (λ i. option_map BadLine (bad_among (has i) (firsts i))) ∙ e)
    c.in_err-check_needs.ensures.err)
