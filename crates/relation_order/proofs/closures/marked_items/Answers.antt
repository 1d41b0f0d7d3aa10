use Rattle.std.proofs.Common.{length, sym, ◌∙◌}
use Rattle.std.proofs.lemmas.Bool.{eqb-true}
use Rattle.relation_order.proofs.MarkSteps.{none-marked}
use Rattle.relation_order.proofs.closures.marked_items.Goals as goal

pub returns-then-is_empty : goal.returns-then-is_empty
returns-then-is_empty c =
    c.new.ensures.items
    ∙ sym (none-marked c.args.row.now c.args.order.now
    (eqb-true (length c.args.row.now) 0 (sym c.if-is_empty.ensures)))
