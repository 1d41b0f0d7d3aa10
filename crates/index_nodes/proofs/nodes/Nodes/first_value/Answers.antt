use Rattle.std.proofs.Common.{◌≡◌, sym, subst, ◌∙◌, None, true}
use Rattle.index_format.specs.Check.{index_fault, values_fit}
use Rattle.index_nodes.proofs.SoundNodes.{node_sound}
use Rattle.index_nodes.proofs.nodes.Nodes.first_value.Goals as goal

pub first_place-requires-clause-fit : goal.first_place-requires-clause-fit
first_place-requires-clause-fit c =
    let same = c.as_bytes.ensures ∙ c.self.view_is in
    let accepted = subst (λ b. index_fault b ≡ None) c.self.view_is c.self.invariant.0 in
    let link = c.args.node.now.link in
    subst (λ b. values_fit b link ≡ true) (sym same)
    (node_sound c.args.self.now accepted link c.requires.node).values
