use Rattle.std.proofs.Common.{arith}
use Rattle.index_format.specs.declared.numbers.TheConstants.{HAS_CHILDREN}
use Rattle.index_nodes.proofs.FieldLemmas.{bit_set, bit_clear}
use Rattle.index_nodes.proofs.ChildLemmas.{range_of}
use Rattle.index_nodes.proofs.ReadLemmas.{childless}
use Rattle.index_nodes.proofs.read.range_of.Goals as goal

pub bounds-bytes-node : goal.bounds-bytes-node
bounds-bytes-node c =
    let n = c.args.node.now in
    let r
    = range_of c.args.bytes.now n.link n.children
    (bit_set n.link HAS_CHILDREN c.if-node-eq0.false) c.requires.fields.children.within
    c.requires.fields.children.rest c.requires.fit in
    omega (arith, r.room)

pub bounds-bytes-node-else-node-eq0 : goal.bounds-bytes-node-else-node-eq0
bounds-bytes-node-else-node-eq0 c =
    let n = c.args.node.now in
    let r
    = range_of c.args.bytes.now n.link n.children
    (bit_set n.link HAS_CHILDREN c.if-node-eq0.false) c.requires.fields.children.within
    c.requires.fields.children.rest c.requires.fit in
    omega (arith, r.room)

pub returns-then-node-eq0-clause-none : goal.returns-then-node-eq0-clause-none
returns-then-node-eq0-clause-none c =
    λ byte. childless c.args.bytes.now c.args.node.now.link byte
    (bit_clear c.args.node.now.link HAS_CHILDREN c.if-node-eq0.true)

pub returns-else-node-eq0-clause-children : goal.returns-else-node-eq0-clause-children
returns-else-node-eq0-clause-children c =
    bit_set c.args.node.now.link HAS_CHILDREN c.if-node-eq0.false

pub returns-else-node-eq0-clause-first : goal.returns-else-node-eq0-clause-first
returns-else-node-eq0-clause-first c =
    let n = c.args.node.now in
    (range_of c.args.bytes.now n.link n.children (bit_set n.link HAS_CHILDREN c.if-node-eq0.false)
    c.requires.fields.children.within c.requires.fields.children.rest c.requires.fit).first

pub returns-else-node-eq0-clause-last : goal.returns-else-node-eq0-clause-last
returns-else-node-eq0-clause-last c =
    let n = c.args.node.now in
    (range_of c.args.bytes.now n.link n.children (bit_set n.link HAS_CHILDREN c.if-node-eq0.false)
    c.requires.fields.children.within c.requires.fields.children.rest c.requires.fit).last

pub returns-else-node-eq0-clause-order : goal.returns-else-node-eq0-clause-order
returns-else-node-eq0-clause-order c =
    let n = c.args.node.now in
    (range_of c.args.bytes.now n.link n.children (bit_set n.link HAS_CHILDREN c.if-node-eq0.false)
    c.requires.fields.children.within c.requires.fields.children.rest c.requires.fit).order

pub returns-else-node-eq0-clause-top : goal.returns-else-node-eq0-clause-top
returns-else-node-eq0-clause-top c =
    let n = c.args.node.now in
    (range_of c.args.bytes.now n.link n.children (bit_set n.link HAS_CHILDREN c.if-node-eq0.false)
    c.requires.fields.children.within c.requires.fields.children.rest c.requires.fit).top
