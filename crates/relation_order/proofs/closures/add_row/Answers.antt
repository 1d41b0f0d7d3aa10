use Rattle.std.proofs.Common.{eqb, ap, ◌∙◌}
use Rattle.std.specs.Prelude.{◌||◌}
use Rattle.relation_order.specs.Rows.{has_mark}
use Rattle.relation_order.proofs.Finding.{or-assoc}
use Rattle.relation_order.proofs.closures.add_row.Goals as goal

pub returns-clause-marks : goal.returns-clause-marks
returns-clause-marks c = λ y.
    c.add_marks.ensures.marks y
    ∙ ap (λ b. b || has_mark c.args.other.now y) (c.mark.ensures.marks y)
    ∙ or-assoc (has_mark c.args.row.now.items y) (eqb y c.args.item) (has_mark c.args.other.now y)
