use Rattle.std.proofs.Common.{◌≡◌, sym, subst, arith}
use Rattle.std.specs.Result.{IfOk}
use Rattle.index_format.specs.declared.numbers.TheConstants.{HAS_VALUES}
use Rattle.index_nodes.proofs.FieldLemmas.{bit_set, bit_clear, values-counted, values-short}
use Rattle.index_nodes.proofs.FieldLemmas.{without_values}
use Rattle.index_nodes.proofs.fields.has_whole_values.Goals as goal

pub returns-then-node-eq0-clause-whole : goal.returns-then-node-eq0-clause-whole
returns-then-node-eq0-clause-whole c =
    sym (without_values c.args.bytes.now c.args.node.now.link
    (bit_clear c.args.node.now.link HAS_VALUES c.if-node-eq0.true))

pub returns-then-bytes-node-lt-COUNT_SIZE-clause-whole :
    goal.returns-then-bytes-node-lt-COUNT_SIZE-clause-whole
returns-then-bytes-node-lt-COUNT_SIZE-clause-whole c =
    let n = c.args.node.now in
    let end = c.requires.fields.values in
    sym (values-short c.args.bytes.now n.link n.values
    (bit_set n.link HAS_VALUES c.if-node-eq0.false) end.rest end.within
    c.if-bytes-node-lt-COUNT_SIZE.true)

pub returns-clause-whole : goal.returns-clause-whole
returns-clause-whole c =
    let n = c.args.node.now in
    let end = c.requires.fields.values in
    subst (λ fit. IfOk c.are_whole.result (λ whole. whole ≡ fit))
    (sym (values-counted c.args.bytes.now n.link n.values c.be_u32_at-count.result
    (bit_set n.link HAS_VALUES c.if-node-eq0.false) end.rest
    (omega (arith, end.within, c.if-bytes-node-lt-COUNT_SIZE.false))
    c.be_u32_at-count.ensures))
    c.are_whole.ensures.whole
