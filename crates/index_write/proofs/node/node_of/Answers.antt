use Rattle.std.proofs.Common.{◌≡◌, arith, length, ap, ◌∙◌, ◌++◌, map}
use Rattle.index_format.specs.Tree.{ending, groups}
use Rattle.index_write.specs.Parts.{span_of}
use Rattle.index_write.specs.Groups.{at_depth, groups_of, below}
use Rattle.index_write.proofs.NodeLemmas.{below-shown, below-rises, new-groups}
use Rattle.index_write.proofs.node.node_of.Goals as goal

pub push_groups-requires : goal.push_groups-requires
push_groups-requires c =
    below-rises c.args.group.now.depth c.args.group.now.entries.now
    c.common_prefix-prefix.result.now c.common_prefix-prefix.ensures.prefix c.requires

pub returns-clause-node : goal.returns-clause-node
returns-clause-node c =
    let rest
    = below-shown c.args.group.now.depth c.args.group.now.entries.now
    c.common_prefix-prefix.result.now c.common_prefix-prefix.ensures.prefix in
    let now
    = ap groups_of c.deref.ensures.value ∙ c.in_ok-push_groups.ensures
    ∙ ap (λ es. groups_of c.args.pending.now.items ++ groups es) rest in
    let start : c.len-start.result ≡ length c.args.pending.now.items = omega arith in
    let children
    = new-groups c.args.pending.now.items c.deref.result.now
    (groups (below (at_depth c.args.group.now.depth c.args.group.now.entries.now)))
    c.len-start.result now start in
    λ i. record {
      byte = c.args.group.now.byte;
      prefix = c.common_prefix-prefix.ensures.prefix i;
      values = (c.ending.ensures ∙ ap ending rest) i;
      children = (c.span_of.ensures ∙ ap (λ gs. span_of (map (λ g. g.0) gs)) children) i;
    }

pub returns-clause-pending : goal.returns-clause-pending
returns-clause-pending c =
    c.in_ok-push_groups.ensures
    ∙ ap (λ es. groups_of c.args.pending.now.items ++ groups es)
    (below-shown c.args.group.now.depth c.args.group.now.entries.now
    c.common_prefix-prefix.result.now c.common_prefix-prefix.ensures.prefix)
