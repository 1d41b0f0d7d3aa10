use Rattle.std.proofs.Common.{sym}
use Rattle.index_write.proofs.NodeLemmas.{span_of-ends}
use Rattle.index_write.proofs.node.span_of.Goals as goal

pub returns-in-Some-Some : goal.returns-in-Some-Some
returns-in-Some-Some c =
    span_of-ends c.args.groups.now c.in-Some-Some.first.now c.in-Some-Some.last.now
    (sym c.in-Some-Some.ensures.value) (sym c.in-Some-Some.ensures'.value)
