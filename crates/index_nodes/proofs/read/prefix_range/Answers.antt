use Rattle.std.proofs.Common.{◌≡◌, sym, ◌∙◌, ◌-◌, length, take, drop, arith}
use Rattle.index_format.specs.declared.numbers.TheConstants.{HAS_PREFIX}
use Rattle.index_format.specs.Node.{prefix}
use Rattle.index_nodes.proofs.FieldLemmas.{bit_set, bit_clear}
use Rattle.index_nodes.proofs.ReadLemmas.{no_prefix, the_prefix}
use Rattle.index_nodes.proofs.read.prefix_range.Goals as goal

pub returns-then-node-eq0-clause-prefix : goal.returns-then-node-eq0-clause-prefix
returns-then-node-eq0-clause-prefix c =
    sym (no_prefix c.args.bytes.now c.args.node.now.link
    (bit_clear c.args.node.now.link HAS_PREFIX c.if-node-eq0.true))

pub returns-clause-prefix : goal.returns-clause-prefix
returns-clause-prefix c =
    let b = c.args.bytes.now in
    let n = c.args.node.now in
    let has = bit_set n.link HAS_PREFIX c.if-node-eq0.false in
    let end = c.requires.children.size has in
    let place = c.place.ensures.place in
    let size : n.children - 1 - c.place.result ≡ length (prefix b n.link)
    = omega (arith, end, place) in
    (λ i. take (size i) (drop (place i) b)) ∙ the_prefix b n.link has
