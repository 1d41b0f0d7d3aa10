use Rattle.std.proofs.Common.{◌≡◌, sym, ap, subst, ◌∙◌, length, None, true, ◌&&◌, arith}
use Rattle.std.proofs.lemmas.Bool.{some_since, and_from, true≢false}
use Rattle.index_format.specs.Link.{place_of}
use Rattle.index_format.specs.Check.{index_fault, prefix_fits, children_fit}
use Rattle.index_nodes.specs.TextEnds.{AreTextEnds}
use Rattle.index_nodes.proofs.SoundNodes.{node_sound}
use Rattle.index_nodes.proofs.nodes.Nodes.node.Goals as goal

pub node_at-requires-clause-ends : goal.node_at-requires-clause-ends
node_at-requires-clause-ends g c =
    subst (λ b. AreTextEnds b c.self.inside.ends) (sym c.as_bytes.ensures) c.self.invariant.1

pub node_at-requires-clause-within : goal.node_at-requires-clause-within
node_at-requires-clause-within g c =
    let same = c.as_bytes.ensures ∙ c.self.view_is in
    let accepted = subst (λ b. index_fault b ≡ None) c.self.view_is c.self.invariant.0 in
    let sound = node_sound c.args.self.now accepted c.args.at.now c.requires in
    let size = ap length same in
    let place = ap place_of c.at.view_is in
    omega (arith, sound.within, size, place)

pub unwrap-requires : goal.unwrap-requires
unwrap-requires g c =
    let same = c.as_bytes.ensures ∙ c.self.view_is in
    let accepted = subst (λ b. index_fault b ≡ None) c.self.view_is c.self.invariant.0 in
    let sound = node_sound c.args.self.now accepted c.args.at.now c.requires in
    let fits : (prefix_fits c.as_bytes.result.now c.at.inside.link
    && children_fit c.as_bytes.result.now c.at.inside.link)
    ≡ true
    = (λ i. prefix_fits (same i) (c.at.view_is i) && children_fit (same i) (c.at.view_is i))
    ∙ and_from _ _ sound.prefix sound.children in
    some_since c.node_at.result _ _ c.node_at.ensures (λ e. true≢false (sym fits ∙ e))
