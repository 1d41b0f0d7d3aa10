use Rattle.std.proofs.Common.{arith}
use Rattle.relation_order.proofs.MarkSteps.{marked-either}
use Rattle.relation_order.proofs.closures.add_marks.Goals as goal

pub returns-clause-marks : goal.returns-clause-marks
returns-clause-marks c = λ y.
    marked-either c.args.row.now.items c.args.other.now c.loop-k.row.items c.loop-k.k y
    (omega arith) c.loop-k.invariant.words
