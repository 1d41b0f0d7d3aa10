use Rattle.relation_order.proofs.MarkSteps.{marked-read}
use Rattle.relation_order.proofs.closures.mark.Goals as goal

pub returns-clause-marks : goal.returns-clause-marks
returns-clause-marks c =
    λ y. marked-read c.args.row.now.items c.args.item c.index_mut.result.now y c.requires
    c.index_mut.ensures.value
