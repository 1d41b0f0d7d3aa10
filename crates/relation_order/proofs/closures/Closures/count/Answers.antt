use Rattle.std.proofs.Common.{◌≡◌, ◌<◌, ℕ, List, [], length, get_or, sym, ap, ◌∙◌, arith}
use Rattle.std.proofs.lemmas.List.{length-map}
use Rattle.std.proofs.lemmas.List.Sums.{sum_by_more}
use Rattle.relation_order.specs.Rows.{marked_in}
use Rattle.relation_order.proofs.ClosureSteps.{count-row, count-next, count-small}
use Rattle.relation_order.proofs.closures.Closures.count.Goals as goal

pub overflow_add-count : goal.overflow_add-count
overflow_add-count c =
    let long : length c.args.self.now ≡ length c.self.inside.rows.items
    = ap (λ v. length v) (sym c.self.view_is)
    ∙ length-map c.self.inside.rows.items (marked_in c.self.inside.order.items) in
    let i : c.loop-row.row-index < length c.self.inside.rows.items
    = omega (arith, c.deref-row-items.ensures.len, ap length c.deref-row-items.ensures.value) in
    let row
    = count-row c.self.inside.rows.items c.self.inside.order.items c.args.self.now
    c.loop-row.row-index c.count_marks-count.result c.row-item.result c.deref.result.now
    c.self.invariant (sym c.self.view_is) i
    (c.row-item.is
    ∙ ap (λ rows. get_or rows c.loop-row.row-index c.row-item.result)
    c.deref-row-items.ensures.value) c.deref.ensures.value
    c.count_marks-count.ensures in
    let small
    = count-small c.loop-row.row-index (length c.args.self.now) (length c.args.self.now)
    c.loop-row.count c.count_marks-count.result c.loop-row.invariant.bound
    (omega (arith, row.1)) (omega arith) (omega arith) c.requires in
    omega arith

pub loop-row-preserved : goal.loop-row-preserved
loop-row-preserved c =
    let long : length c.args.self.now ≡ length c.self.inside.rows.items
    = ap (λ v. length v) (sym c.self.view_is)
    ∙ length-map c.self.inside.rows.items (marked_in c.self.inside.order.items) in
    let i : c.loop-row.row-index < length c.self.inside.rows.items
    = omega (arith, c.deref-row-items.ensures.len, ap length c.deref-row-items.ensures.value) in
    let row
    = count-row c.self.inside.rows.items c.self.inside.order.items c.args.self.now
    c.loop-row.row-index c.count_marks-count.result c.row-item.result c.deref.result.now
    c.self.invariant (sym c.self.view_is) i
    (c.row-item.is
    ∙ ap (λ rows. get_or rows c.loop-row.row-index c.row-item.result)
    c.deref-row-items.ensures.value) c.deref.ensures.value
    c.count_marks-count.ensures in
    let more
    = sum_by_more (λ (xs : List ℕ). length xs) c.args.self.now c.loop-row.row-index []
    (omega arith) in
    record {
      value = omega (arith, more, row.0, c.loop-row.invariant.value);
      bound
          = count-next c.loop-row.row-index (length c.args.self.now) c.loop-row.count
          c.count_marks-count.result c.loop-row.invariant.bound (omega (arith, row.1));
    }
