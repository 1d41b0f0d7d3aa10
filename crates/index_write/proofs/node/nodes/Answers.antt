use Rattle.std.proofs.Common.{refl, ◌<◌, length, ap, ◌∙◌, sym, subst, ◌∷◌, ◌++◌, map, reverse}
use Rattle.index_format.specs.Tree.{longest, groups}
use Rattle.index_write.specs.Parts.{parts_of}
use Rattle.index_write.specs.Groups.{entries_shown, groups_of, part_of, part_for, root_part}
use Rattle.index_write.specs.Groups.{at_depth}
use Rattle.index_write.proofs.NodeLemmas.{NodesSoFar, nodes_of, groups_of-push, popped, so_far-root}
use Rattle.index_write.proofs.NodeLemmas.{so_far-node, so_far-end, nothing_left, map-reverse}
use Rattle.index_write.proofs.NodeLemmas.{last_ready, fewer, parts-push}
use Rattle.index_write.proofs.node.nodes.Goals as goal

pub loop-group-init : goal.loop-group-init
loop-group-init c =
    so_far-root (entries_shown c.args.entries.now) (groups_of c.root_of.new.pending.items)
    (reverse (map part_of c.push.new.self.items)) c.requires
    (c.in_ok-root_of.ensures.pending
    ∙ ap (λ items. groups_of items ++ groups (entries_shown c.args.entries.now))
    c.new-pending.ensures.items)
    (ap (λ items. reverse (map part_of items)) c.in_ok-push.ensures.items
    ∙ parts-push c.new-nodes.result.items c.in_ok-root_of.field-0
    (root_part (entries_shown c.args.entries.now)) c.in_ok-root_of.ensures.node
    ∙ ap (λ items. root_part (entries_shown c.args.entries.now) ∷ reverse (map part_of items))
    c.new-nodes.ensures.items)

pub node_of-requires : goal.node_of-requires
node_of-requires c =
    let h
    = popped (entries_shown c.args.entries.now) c.loop-group.pending.items c.pop.new.self.items
    c.in-Some.group (reverse (map part_of c.loop-group.nodes.items)) c.in-Some.ensures.items
    c.loop-group.invariant in
    (last_ready (entries_shown c.args.entries.now) (groups_of c.pop.new.self.items)
    c.in-Some.group.byte (at_depth c.in-Some.group.depth c.in-Some.group.entries.now)
    (reverse (map part_of c.loop-group.nodes.items)) h).rises

pub loop-group-smaller : goal.loop-group-smaller
loop-group-smaller c =
    let h
    = popped (entries_shown c.args.entries.now) c.loop-group.pending.items c.pop.new.self.items
    c.in-Some.group (reverse (map part_of c.loop-group.nodes.items)) c.in-Some.ensures.items
    c.loop-group.invariant in
    let es = at_depth c.in-Some.group.depth c.in-Some.group.entries.now in
    let less
    = fewer (entries_shown c.args.entries.now) (groups_of c.pop.new.self.items)
    (groups_of c.node_of.new.pending.items) c.in-Some.group.byte es
    (reverse (map part_of c.loop-group.nodes.items)) _ c.in_ok-node_of.ensures.pending refl
    h in
    subst (λ gs. length
    (parts_of (nodes_of (longest (entries_shown c.args.entries.now))
    (groups_of c.node_of.new.pending.items)))
    < length (parts_of (nodes_of (longest (entries_shown c.args.entries.now)) gs)))
    (sym (ap groups_of c.in-Some.ensures.items
    ∙ groups_of-push c.pop.new.self.items c.in-Some.group)) less

pub loop-group-preserved : goal.loop-group-preserved
loop-group-preserved c =
    let h
    = popped (entries_shown c.args.entries.now) c.loop-group.pending.items c.pop.new.self.items
    c.in-Some.group (reverse (map part_of c.loop-group.nodes.items)) c.in-Some.ensures.items
    c.loop-group.invariant in
    let es = at_depth c.in-Some.group.depth c.in-Some.group.entries.now in
    so_far-node (entries_shown c.args.entries.now) (groups_of c.pop.new.self.items)
    (groups_of c.node_of.new.pending.items) c.in-Some.group.byte es
    (reverse (map part_of c.loop-group.nodes.items)) _
    c.in_ok-node_of.ensures.pending
    (ap (λ items. reverse (map part_of items)) c.in_ok-push-2.ensures.items
    ∙ parts-push c.loop-group.nodes.items c.in_ok-node_of.field-0 (part_for c.in-Some.group.byte es)
    c.in_ok-node_of.ensures.node) h

pub returns : goal.returns
returns c =
    let ended = nothing_left c.loop-group.pending c.in_default.ensures.cases.0 in
    ap (map part_of) c.reverse.ensures.items
    ∙ map-reverse part_of c.loop-group.nodes.items
    ∙ so_far-end (entries_shown c.args.entries.now) (reverse (map part_of c.loop-group.nodes.items))
    (subst (λ gs. NodesSoFar (entries_shown c.args.entries.now) (groups_of gs)
    (reverse (map part_of c.loop-group.nodes.items))) ended c.loop-group.invariant)
