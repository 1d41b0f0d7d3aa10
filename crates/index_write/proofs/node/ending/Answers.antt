use Rattle.std.proofs.Common.{sym}
use Rattle.index_write.proofs.NodeLemmas.{first_ending}
use Rattle.index_write.proofs.node.ending.Goals as goal

pub returns-else-first-depth : goal.returns-else-first-depth
returns-else-first-depth c =
    sym (first_ending c.args.depth c.args.entries.now c.in-Some.first.now
    (sym c.in-Some.ensures.value) c.if-first-depth.false)
