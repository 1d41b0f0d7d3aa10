use Rattle.std.proofs.Common.{⊎_elim, arith}
use Rattle.std.proofs.lemmas.Bool.{cases_lt}
use Rattle.index_nodes.proofs.ReadLemmas.{child_below_range, child_above_range}
use Rattle.index_nodes.proofs.read.next_link.Goals as goal

pub loop-byte-init : goal.loop-byte-init
loop-byte-init c =
    let e = c.max-byte.ensures in record {
      low = omega (arith, e);
      after = omega (arith, e);
      none
          = λ k from lt. child_below_range c.args.bytes.now c.args.node.now.link k
          (omega (arith, e, from, lt, c.in_ok-first.ensures.first));
    }

pub returns-clause-none : goal.returns-clause-none
returns-clause-none c =
    λ byte from.
    ⊎_elim
    (λ lt. c.loop-byte.invariant.none byte from lt)
    (λ le. child_above_range c.args.bytes.now c.args.node.now.link byte
    (omega (arith, le, c.loop-byte-test.false, c.in_ok-first.ensures.last)))
    (cases_lt byte c.loop-byte.byte)
