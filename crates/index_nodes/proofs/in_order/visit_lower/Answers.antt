use Rattle.std.proofs.Common.{ap, ◌∙◌}
use Rattle.index_format.specs.Check.{children_fit}
use Rattle.index_nodes.specs.Pending.{arrival_of}
use Rattle.index_nodes.proofs.ChildLemmas.{sound_parts}
use Rattle.index_nodes.proofs.in_order.visit_lower.Goals as goal

pub children_of-children-requires-clause-fit : goal.children_of-children-requires-clause-fit
children_of-children-requires-clause-fit c =
    let b = c.args.bytes.now in
    let sound = rw c.in-Some.is at c.in_ok-node.ensures.sound in
    let parts = sound_parts b (arrival_of c.args.visit.now) sound.0 in
    ap (children_fit b) sound.1 ∙ parts.children
