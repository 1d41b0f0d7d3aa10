use Rattle.std.proofs.Common.{arith}
use Rattle.index_write.proofs.NodeLemmas.{leading-stop_ended, leading-stop_other, leading-next}
use Rattle.index_write.proofs.node.run_length.Goals as goal
use Rattle.index_write.proofs.node.run_length.Goals.{then-entry-depth-via-then-entry-depth}
use Rattle.index_write.proofs.node.run_length.Goals.{then-entry-depth-via-else-entry-depth+then-entry-depth-2}

pub returns-then-entry-depth-clause-count : goal.returns-then-entry-depth-clause-count
returns-then-entry-depth-clause-count c =
    elim c.then-entry-depth.branch [
      | then-entry-depth-via-then-entry-depth w ↦
          omega (
            arith,
            c.loop-n.invariant,
            leading-stop_ended c.args.byte c.args.depth c.loop-n.n c.args.entries.now
                c.index-entries-n.result c.loop-n-test.true c.index-entries-n.is
                w.if-entry-depth.true,
          )
      | then-entry-depth-via-else-entry-depth+then-entry-depth-2 w ↦
          omega (
            arith,
            c.loop-n.invariant,
            leading-stop_other c.args.byte c.args.depth c.loop-n.n c.args.entries.now
                c.index-entries-n.result c.loop-n-test.true c.index-entries-n.is
                w.if-entry-depth.false w.if-entry-depth-2.true,
          )
    ]

pub loop-n-preserved : goal.loop-n-preserved
loop-n-preserved c =
    omega (
      arith,
      c.loop-n.invariant,
      leading-next c.args.byte c.args.depth c.loop-n.n c.args.entries.now c.index-entries-n.result
          c.loop-n-test.true c.index-entries-n.is c.if-entry-depth.false c.if-entry-depth-2.false,
    )
