use Rattle.std.proofs.Common.{sym, ap, ◌∙◌, true, false, Some, arith}
use Rattle.index_format.specs.Link.{place_of}
use Rattle.index_format.specs.Check.{BadNode, Revisited, children_fit}
use Rattle.index_nodes.specs.Visited.{has_place}
use Rattle.index_nodes.specs.Pending.{arrival_of}
use Rattle.index_nodes.proofs.ArrivalLemmas.{fault_above, fault_seen, fault_by_sound}
use Rattle.index_nodes.proofs.ChildLemmas.{sound_parts}
use Rattle.index_nodes.proofs.check.visit_node.Goals as goal

pub returns-then-offset-visit-clause-fault : goal.returns-then-offset-visit-clause-fault
returns-then-offset-visit-clause-fault c =
    let place = c.place-offset.ensures.place in
    let a = arrival_of c.args.visit.now in
    λ seen h. fault_above c.args.bytes.now seen a (omega (arith, c.if-offset-visit.true, place))
    ∙ ap (λ q. Some (BadNode q)) (sym place)

pub returns-then-has-clause-fault : goal.returns-then-has-clause-fault
returns-then-has-clause-fault c =
    let place = c.place-offset.ensures.place in
    let a = arrival_of c.args.visit.now in
    λ seen h.
    fault_seen c.args.bytes.now seen a (omega (arith, c.if-offset-visit.false, place))
    (sym (h (place_of a.link)) ∙ ap (has_place c.args.visited.now) (sym place) ∙ sym c.has.ensures
    ∙ c.if-has.true)
    ∙ ap (λ q. Some (Revisited q)) (sym place)

pub returns-in_default-clause-fault : goal.returns-in_default-clause-fault
returns-in_default-clause-fault c =
    let place = c.place-offset.ensures.place in
    let a = arrival_of c.args.visit.now in
    λ seen h.
    fault_by_sound c.args.bytes.now seen a false (omega (arith, c.if-offset-visit.false, place))
    (sym (h (place_of a.link)) ∙ ap (has_place c.args.visited.now) (sym place) ∙ sym c.has.ensures
    ∙ c.if-has.false)
    (rw c.in_default.is at c.in_ok-node.ensures.sound)
    ∙ ap (λ q. Some (BadNode q)) (sym place)

pub add-requires : goal.add-requires
add-requires c =
    let place = c.place-offset.ensures.place in
    let sound = rw c.in-Some.is at c.in_ok-node.ensures.sound in
    let parts = sound_parts c.args.bytes.now (arrival_of c.args.visit.now) sound.0 in
    omega (arith, place, parts.within, c.requires.room)

pub returns-clause-passes : goal.returns-clause-passes
returns-clause-passes c =
    let place = c.place-offset.ensures.place in
    let a = arrival_of c.args.visit.now in
    λ seen h.
    fault_by_sound c.args.bytes.now seen a true (omega (arith, c.if-offset-visit.false, place))
    (sym (h (place_of a.link)) ∙ ap (has_place c.args.visited.now) (sym place) ∙ sym c.has.ensures
    ∙ c.if-has.false)
    (rw c.in-Some.is at c.in_ok-node.ensures.sound).0

pub children_of-requires-clause-fit : goal.children_of-requires-clause-fit
children_of-requires-clause-fit c =
    let b = c.args.bytes.now in
    let sound = rw c.in-Some.is at c.in_ok-node.ensures.sound in
    let parts = sound_parts b (arrival_of c.args.visit.now) sound.0 in
    ap (children_fit b) sound.1 ∙ parts.children
