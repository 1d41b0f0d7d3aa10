use Rattle.std.proofs.Common.{sym}
use Rattle.index_write.proofs.NodeLemmas.{first_ended}
use Rattle.index_write.proofs.node.ended.Goals as goal

pub returns-else-first-depth-clause-count : goal.returns-else-first-depth-clause-count
returns-else-first-depth-clause-count c =
    sym (first_ended c.args.depth c.args.entries.now c.in-Some.first.now
    (sym c.in-Some.ensures.value) c.if-first-depth.false)
