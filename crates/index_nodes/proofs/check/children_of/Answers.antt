use Rattle.std.proofs.Common.{◌≡◌, sym, ap, ◌∙◌, ◌+◌, ◌-◌, get_or, arith}
use Rattle.index_format.specs.declared.numbers.TheConstants.{HAS_CHILDREN}
use Rattle.index_nodes.specs.Pending.{links_at}
use Rattle.index_nodes.proofs.FieldLemmas.{bit_set, bit_clear}
use Rattle.index_nodes.proofs.ChildLemmas.{no_children, range_of, children_links}
use Rattle.index_nodes.proofs.check.children_of.Goals as goal

pub returns-then-node-eq0 : goal.returns-then-node-eq0
unfolding links_at
returns-then-node-eq0 c =
    let n = c.args.node.now in
    record {
      above = c.place-above.ensures.place;
      links
          = sym (no_children c.args.bytes.now n.link
          (bit_clear n.link HAS_CHILDREN c.if-node-eq0.true));
      inside = omega arith;
    }

pub bounds-bytes-node : goal.bounds-bytes-node
bounds-bytes-node c =
    let r
    = range_of c.args.bytes.now c.args.node.now.link c.args.node.now.children
    (bit_set c.args.node.now.link HAS_CHILDREN c.if-node-eq0.false)
    c.requires.fields.children.within c.requires.fields.children.rest c.requires.fit in
    omega (arith, r.room)

pub bounds-bytes-node-2 : goal.bounds-bytes-node-2
bounds-bytes-node-2 c =
    let r
    = range_of c.args.bytes.now c.args.node.now.link c.args.node.now.children
    (bit_set c.args.node.now.link HAS_CHILDREN c.if-node-eq0.false)
    c.requires.fields.children.within c.requires.fields.children.rest c.requires.fit in
    omega (arith, r.room)

pub overflow_sub-last : goal.overflow_sub-last
overflow_sub-last c =
    let r
    = range_of c.args.bytes.now c.args.node.now.link c.args.node.now.children
    (bit_set c.args.node.now.link HAS_CHILDREN c.if-node-eq0.false)
    c.requires.fields.children.within c.requires.fields.children.rest c.requires.fit in
    r.order

pub returns : goal.returns
returns c =
    let b = c.args.bytes.now in
    let n = c.args.node.now in
    let r
    = range_of b n.link n.children (bit_set n.link HAS_CHILDREN c.if-node-eq0.false)
    c.requires.fields.children.within c.requires.fields.children.rest c.requires.fit in
    let size : c.from.result ≡ get_or b (n.children + 1) 0 - get_or b n.children 0
    = c.from.ensures in
    record {
      above = c.place-above.ensures.place;
      links =
          ap (λ k. links_at b (n.children + 2) (k + 1)) size
          ∙ sym (children_links b n.link n.children
          (bit_set n.link HAS_CHILDREN c.if-node-eq0.false) c.requires.fields.children.rest r);
      inside = omega (arith, r.room, size);
    }
