use Rattle.std.proofs.Common.{◌≡◌, arith, length, ap, ◌∙◌, sym, subst, [], ◌++◌, map}
use Rattle.index_format.specs.Tree.{ending, groups, Rises}
use Rattle.index_write.specs.Parts.{span_of}
use Rattle.index_write.specs.Groups.{entries_shown, groups_of}
use Rattle.index_write.proofs.NodeLemmas.{at_depth-zero, new-groups}
use Rattle.index_write.proofs.node.root_of.Goals as goal

pub push_groups-requires : goal.push_groups-requires
push_groups-requires c = subst Rises (sym (at_depth-zero c.args.entries.now)) c.requires

pub returns-clause-node : goal.returns-clause-node
returns-clause-node c =
    let rest = at_depth-zero c.args.entries.now in
    let now
    = ap groups_of c.deref.ensures.value ∙ c.in_ok-push_groups.ensures
    ∙ ap (λ es. groups_of c.args.pending.now.items ++ groups es) rest in
    let start : c.len-start.result ≡ length c.args.pending.now.items = omega arith in
    let children
    = new-groups c.args.pending.now.items c.deref.result.now
    (groups (entries_shown c.args.entries.now)) c.len-start.result now start in
    λ i. record {
      byte = 0;
      prefix = [];
      values = (c.ending.ensures ∙ ap ending rest) i;
      children = (c.span_of.ensures ∙ ap (λ gs. span_of (map (λ g. g.0) gs)) children) i;
    }

pub returns-clause-pending : goal.returns-clause-pending
returns-clause-pending c =
    c.in_ok-push_groups.ensures
    ∙ ap (λ es. groups_of c.args.pending.now.items ++ groups es)
    (at_depth-zero c.args.entries.now)
