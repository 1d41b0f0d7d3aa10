use Rattle.std.proofs.Common.{◌≡◌, sym, ap, subst, ◌∙◌, None, true}
use Rattle.index_format.specs.Node.{child}
use Rattle.index_format.specs.Check.{index_fault, children_fit}
use Rattle.index_format.specs.Nodes.{below}
use Rattle.index_nodes.proofs.SoundNodes.{node_sound}
use Rattle.index_nodes.proofs.nodes.Nodes.child.Goals as goal

pub child_link-requires-clause-fit : goal.child_link-requires-clause-fit
child_link-requires-clause-fit c =
    let same = c.as_bytes.ensures ∙ c.self.view_is in
    let accepted = subst (λ b. index_fault b ≡ None) c.self.view_is c.self.invariant.0 in
    let link = c.args.node.now.link in
    subst (λ b. children_fit b link ≡ true) (sym same)
    (node_sound c.args.self.now accepted link c.requires.node).children

pub returns-clause-node : goal.returns-clause-node
returns-clause-node c =
    let same = c.as_bytes.ensures ∙ c.self.view_is in
    let link = c.args.node.now.link in
    below c.args.byte c.in_ok-link.link c.requires.node
    (ap (λ b. child b link c.args.byte) (sym same) ∙ sym c.in_ok-link.ensures)
