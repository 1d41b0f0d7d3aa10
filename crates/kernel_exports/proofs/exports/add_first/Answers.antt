use Rattle.std.proofs.Common.{◌∷◌, [], ◌++◌, Some, map, sym, subst, arith, ◌∙◌}
use Rattle.name_table.specs.NameTable.{IsTableOf}
use Rattle.kernel_exports.specs.KernelTable.{AreFirst, export_name}
use Rattle.kernel_exports.proofs.ExportSteps.{added, there, with-new, with-known, push-first}
use Rattle.kernel_exports.proofs.exports.add_first.Goals as goal

pub returns-in_ok-push-2-clause-list : goal.returns-in_ok-push-2-clause-list
returns-in_ok-push-2-clause-list c first =
    c.in_ok-push-2.ensures.ok
    ∙ with-new c.args.list.now c.args.export
    (added c.args.names.now c.args.list.now c.args.export c.args.name.now c.place.result first
    c.place.ensures c.requires.name (grind arith))

pub returns-in_ok-push-2-clause-first : goal.returns-in_ok-push-2-clause-first
returns-in_ok-push-2-clause-first c first =
    let es = c.args.list.now in
    let e = c.args.export in
    let none
    = added c.args.names.now es e c.args.name.now c.place.result first c.place.ensures
    c.requires.name (grind arith) in
    let named
    = subst (λ name. IsTableOf c.push.new.self (map export_name es ++ Some name ∷ []))
    c.requires.name (c.in_ok-push.ensures.ok (map export_name es) first.named) in
    subst (λ list. AreFirst c.push.new.self list) (sym c.in_ok-push-2.ensures.ok)
    (push-first c.args.names.now c.push.new.self es e first none named)

pub returns-else-is_none-clause-list : goal.returns-else-is_none-clause-list
returns-else-is_none-clause-list c first =
    with-known c.args.list.now c.args.export
    (there c.args.names.now c.args.list.now c.args.export c.args.name.now c.place.result first
    c.place.ensures c.requires.name (grind arith))
