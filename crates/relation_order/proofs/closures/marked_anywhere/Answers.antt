use Rattle.std.proofs.Common.{map, filter, sym, ap, ◌∙◌, subst, arith}
use Rattle.std.specs.Prelude.{◌||◌}
use Rattle.std.proofs.lemmas.List.{take_all}
use Rattle.std.proofs.lemmas.Result.{IfOk-weaker}
use Rattle.relation_order.specs.Rows.{has_mark, marked_in, Fitting}
use Rattle.relation_order.proofs.ClosureSteps.{AreIn, in-more, in-part, in-fitting}
use Rattle.relation_order.proofs.closures.marked_anywhere.Goals as goal

pub loop-row-preserved : goal.loop-row-preserved
loop-row-preserved c =
    let row = c.row-item.result in
    record {
      long = c.add_marks.ensures.long ∙ c.loop-row.invariant.long;
      marks
          = in-more c.loop-row.all.items c.add_marks.new.row.items c.args.rows.now
          c.loop-row.row-index row row c.loop-row-test.true c.row-item.is
          (λ y. c.add_marks.ensures.marks y
          ∙ ap (λ ws. has_mark c.loop-row.all.items y || has_mark ws y)
          c.deref.ensures.value) c.loop-row.invariant.marks;
    }

pub returns-clause-same : goal.returns-clause-same
returns-clause-same c =
    let rows = c.args.rows.now in
    let order = c.args.order.now in
    let all = c.loop-row.all.items in
    IfOk-weaker c.marked_items.result _ _
    (λ found is.
    ap (λ o. map (marked_in o) rows)
    (is ∙ ap (λ ws. filter (has_mark ws) order) c.deref-2.ensures.value)
    ∙ in-part all order rows
    (subst (AreIn all) (take_all c.loop-row.row-index rows (omega arith))
    c.loop-row.invariant.marks))
    c.marked_items.ensures

pub returns-clause-fitting : goal.returns-clause-fitting
returns-clause-fitting c =
    let rows = c.args.rows.now in
    let order = c.args.order.now in
    let all = c.loop-row.all.items in
    IfOk-weaker c.marked_items.result _ _
    (λ found is fitting.
    subst (Fitting rows) (sym (is ∙ ap (λ ws. filter (has_mark ws) order) c.deref-2.ensures.value))
    (in-fitting all order rows
    (subst (AreIn all) (take_all c.loop-row.row-index rows (omega arith))
    c.loop-row.invariant.marks) fitting))
    c.marked_items.ensures
