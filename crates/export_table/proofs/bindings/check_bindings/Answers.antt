use Rattle.std.proofs.Common.{◌≡◌, ◌⊎◌, map, refl, Some, None}
use Rattle.std.proofs.lemmas.Result.{IfErr-weaker, err_from_is_err_and, on_ok_weaker}
use Rattle.km_names.specs.First.{first}
use Rattle.load_fault.specs.declared.fault.LoadFault.{LoadFault}
use Rattle.load_fault.specs.declared.fault.LoadFault.TheVariants.{Memory}
use Rattle.export_table.specs.NeedTests.{binding_tests, taken_by}
use Rattle.export_table.proofs.FirstLemmas.{fails, later, passes}
use Rattle.export_table.proofs.bindings.check_bindings.Goals as goal

pub returns-in_err-check-clause-fault : goal.returns-in_err-check-clause-fault
returns-in_err-check-clause-fault c =
    let p = err_from_is_err_and c.from_residual.result c.from_residual.ensures.1 in
    rw (p.1, p.2) (fails _ _ _ c.in_err-check.ensures.fault)

pub returns-in_err-check-2-clause-fault : goal.returns-in_err-check-2-clause-fault
returns-in_err-check-2-clause-fault c =
    let p
    = err_from_is_err_and c.from_residual-in_err-check-2.result
    c.from_residual-in_err-check-2.ensures.1 in
    rw (p.1, p.2) (later _ _ _ c.in_ok-check.ensures.passed
    (fails _ _ _ c.in_err-check-2.ensures.fault))

pub returns-in_err-check-3-clause-fault : goal.returns-in_err-check-3-clause-fault
returns-in_err-check-3-clause-fault c =
    let p
    = err_from_is_err_and c.from_residual-in_err-check-3.result
    c.from_residual-in_err-check-3.ensures.1 in
    rw (p.1, p.2) (later _ _ _ c.in_ok-check.ensures.passed
    (later _ _ _ c.in_ok-check-2.ensures.passed
    (fails _ _ _ c.in_err-check-3.ensures.fault)))

pub returns-in_err-check-4-clause-fault : goal.returns-in_err-check-4-clause-fault
returns-in_err-check-4-clause-fault c =
    let p
    = err_from_is_err_and c.from_residual-in_err-check-4.result
    c.from_residual-in_err-check-4.ensures.1 in
    rw (p.1, p.2) (later _ _ _ c.in_ok-check.ensures.passed
    (later _ _ _ c.in_ok-check-2.ensures.passed
    (later _ _ _ c.in_ok-check-3.ensures.passed
    (fails _ _ _ c.in_err-check-4.ensures.fault))))

pub returns-clause-passed : goal.returns-clause-passed
returns-clause-passed c =
    let t = c.args.table.now in
    let f = c.args.facts.now in
    on_ok_weaker {P = first (map (taken_by t) f.exports) ≡ None}
    {Q = first (binding_tests t f) ≡ None} c.check_exports.result
    (λ free. passes _ _ c.in_ok-check.ensures.passed
    (passes _ _ c.in_ok-check-2.ensures.passed
    (passes _ _ c.in_ok-check-3.ensures.passed
    (passes _ _ c.in_ok-check-4.ensures.passed (passes _ _ free refl)))))
    c.check_exports.ensures.passed

pub returns-clause-fault : goal.returns-clause-fault
returns-clause-fault c =
    let t = c.args.table.now in
    let f = c.args.facts.now in
    IfErr-weaker c.check_exports.result
    (λ (e : LoadFault). (e ≡ Memory) ⊎ (first (map (taken_by t) f.exports) ≡ Some e))
    (λ (e : LoadFault). (e ≡ Memory) ⊎ (first (binding_tests t f) ≡ Some e))
    (λ e is. later _ _ _ c.in_ok-check.ensures.passed
    (later _ _ _ c.in_ok-check-2.ensures.passed
    (later _ _ _ c.in_ok-check-3.ensures.passed
    (later _ _ _ c.in_ok-check-4.ensures.passed (fails _ _ _ is)))))
    c.check_exports.ensures.fault
