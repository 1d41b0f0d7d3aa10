use Rattle.std.proofs.Common.{◌<◌, ◌^◌, ℕ, List, length, All, Some, None, sym, ap, subst, ◌∙◌}
use Rattle.std.proofs.Common.{arith}
use Rattle.std.proofs.lemmas.List.{length-map}
use Rattle.std.proofs.lemmas.Result.{err_from_is_err_and}
use Rattle.provider_rel.specs.Faces.{module_of, modules_of, kernel_of, seen_export}
use Rattle.provider_rel.proofs.DoubleLaw.{apart-map, modules-apart}
use Rattle.provider_rel.proofs.MakeSteps.{fault-cycle, fault-counts, deps-long, deps-small, right}
use Rattle.provider_rel.proofs.relation.closures_of.Goals as goal

pub returns-in_err-closures-clause-err : goal.returns-in_err-closures-clause-err
returns-in_err-closures-clause-err c =
    let p = err_from_is_err_and c.from_residual.result c.from_residual.ensures.1 in
    rw (p.1, p.2)
    (right
    (fault-cycle c.args.tree.now (kernel_of c.args.kernel.now) c.in_err-closures.field-0.0)
    c.in_err-closures.ensures.err)

pub check_counts-requires-clause-closures : goal.check_counts-requires-clause-closures
check_counts-requires-clause-closures c =
    omega (
      arith,
      ap length c.in_ok-closures.ensures.ok,
      deps-long (modules_of c.args.tree.now) (kernel_of c.args.kernel.now),
      length-map c.args.tree.now module_of,
      c.requires.tree.few,
    )

pub returns-in_err-check_counts-clause-err : goal.returns-in_err-check_counts-clause-err
returns-in_err-check_counts-clause-err c =
    let k = c.args.kernel.now in
    let tree = c.args.tree.now in
    let b = c.args.bindings.now in
    let p
    = err_from_is_err_and c.from_residual-in_err-check_counts.result
    c.from_residual-in_err-check_counts.ensures.1 in
    rw (p.1, p.2) (right (fault-counts tree (kernel_of k) c.in_ok-closures.closures b.items.items
    (Some c.in_err-check_counts.field-0.0) c.in_ok-closures.ensures.passed
    c.in_ok-closures.ensures.ok c.requires.bindings.items_are
    (apart-map seen_export k.exports k.table.distinct) (modules-apart tree c.requires.tree.modules))
    c.in_err-check_counts.ensures.err)

pub orders_of-requires-clause-long : goal.orders_of-requires-clause-long
orders_of-requires-clause-long c =
    ap length c.in_ok-closures.ensures.ok
    ∙ deps-long (modules_of c.args.tree.now) (kernel_of c.args.kernel.now)
    ∙ length-map c.args.tree.now module_of ∙ sym c.len.ensures

pub orders_of-requires-clause-small : goal.orders_of-requires-clause-small
orders_of-requires-clause-small c =
    let P : List (List ℕ) → Type 0 = λ xss. All (λ xs. All (λ i. i < 2 ^ 32) xs) xss in
    subst P (sym c.in_ok-closures.ensures.ok)
    (deps-small (modules_of c.args.tree.now) (kernel_of c.args.kernel.now)
    (omega (arith, length-map c.args.tree.now module_of, c.requires.tree.few)))

pub returns-clause-ok : goal.returns-clause-ok
returns-clause-ok c = c.in_ok-orders_of.ensures ∙ c.in_ok-closures.ensures.ok

pub returns-clause-passed : goal.returns-clause-passed
returns-clause-passed c =
    let k = c.args.kernel.now in
    let tree = c.args.tree.now in
    let b = c.args.bindings.now in
    fault-counts tree (kernel_of k) c.in_ok-closures.closures b.items.items None
    c.in_ok-closures.ensures.passed c.in_ok-closures.ensures.ok c.requires.bindings.items_are
    (apart-map seen_export k.exports k.table.distinct) (modules-apart tree c.requires.tree.modules)
    c.in_ok-check_counts.ensures.passed
