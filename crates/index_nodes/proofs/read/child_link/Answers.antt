use Rattle.std.proofs.Common.{sym, arith}
use Rattle.index_nodes.proofs.ReadLemmas.{child_below_range, child_above_range}
use Rattle.index_nodes.proofs.read.child_link.Goals as goal
use Rattle.index_nodes.proofs.read.child_link.Goals.{then-byte-first-via-then-byte-first}
use Rattle.index_nodes.proofs.read.child_link.Goals.{then-byte-first-via-else-byte-first+then-last-byte}

pub returns-then-byte-first : goal.returns-then-byte-first
returns-then-byte-first c =
    let b = c.args.bytes.now in
    let link = c.args.node.now.link in
    elim c.then-byte-first.branch [
      | then-byte-first-via-then-byte-first w ↦ sym
          (child_below_range b link c.args.byte
          (omega (arith, w.if-byte-first.true, c.in_ok-first.ensures.first)))
      | then-byte-first-via-else-byte-first+then-last-byte w ↦ sym
          (child_above_range b link c.args.byte
          (omega (arith, w.if-last-byte.true, c.in_ok-first.ensures.last)))
    ]
