use Rattle.std.proofs.Common.{sym, ap, ◌∙◌, ◌+◌, nat_eq, length, drop, arith}
use Rattle.std.specs.List.{starts_with}
use Rattle.index_format.specs.Walk.{Walk, walk, visits}
use Rattle.index_nodes.specs.Fields.{link_of}
use Rattle.index_read.proofs.ReachLemmas.{walk_other, walk_end, walk_lost, walk_child}
use Rattle.index_read.proofs.reach.reach.Goals as goal

pub walk-init : goal.walk-init
unfolding visits
walk-init g c =
    let b = c.args.nodes.now in
    let e = c.root-at.ensures.root in
    record {
      node = c.root-at.ensures.node;
      reached = ap (λ l. (walk b l c.args.key.now).reached) e;
      cost = ap (λ l. c.args.steps.now + length (walk b l c.args.key.now).nodes) e;
    }

pub returns-in_err-after_prefix-clause-reached : goal.returns-in_err-after_prefix-clause-reached
returns-in_err-after_prefix-clause-reached g c =
    let b = c.args.nodes.now in
    let n = link_of c.node-node.result in
    let rest = c.walk.rest.now in
    let other
    = walk_other b n rest
    (ap (starts_with nat_eq rest) (sym c.prefix.ensures) ∙ c.in_err-after_prefix.ensures) in
    rw c.from_residual.ensures
    (sym (ap (λ (w : Walk). w.reached) other)
    ∙ ap (λ l. (walk b l rest).reached) c.node-node.ensures.name ∙ c.walk.invariant.reached)

pub returns-in_err-after_prefix-clause-cost : goal.returns-in_err-after_prefix-clause-cost
returns-in_err-after_prefix-clause-cost g c =
    let b = c.args.nodes.now in
    let n = link_of c.node-node.result in
    let rest = c.walk.rest.now in
    let other
    = walk_other b n rest
    (ap (starts_with nat_eq rest) (sym c.prefix.ensures) ∙ c.in_err-after_prefix.ensures) in
    let here
    = ap (λ l. length (walk b l rest).nodes) (sym c.node-node.ensures.name)
    ∙ ap (λ (w : Walk). length w.nodes) other in
    omega (arith, here, c.walk.invariant.cost, c.node-node.ensures.step)

pub returns-in_default-clause-reached : goal.returns-in_default-clause-reached
returns-in_default-clause-reached g c =
    let b = c.args.nodes.now in
    let n = link_of c.node-node.result in
    let rest = c.walk.rest.now in
    let ends
    = walk_end b n rest
    (ap (starts_with nat_eq rest) (sym c.prefix.ensures) ∙ c.in_ok-after_prefix.ensures.0)
    (ap (λ p. drop (length p) rest) (sym c.prefix.ensures) ∙ c.in_ok-after_prefix.ensures.1
    ∙ c.in_default.ensures) in
    sym (ap (λ (w : Walk). w.reached) ends)
    ∙ ap (λ l. (walk b l rest).reached) c.node-node.ensures.name ∙ c.walk.invariant.reached

pub returns-in_default-clause-cost : goal.returns-in_default-clause-cost
returns-in_default-clause-cost g c =
    let b = c.args.nodes.now in
    let n = link_of c.node-node.result in
    let rest = c.walk.rest.now in
    let ends
    = walk_end b n rest
    (ap (starts_with nat_eq rest) (sym c.prefix.ensures) ∙ c.in_ok-after_prefix.ensures.0)
    (ap (λ p. drop (length p) rest) (sym c.prefix.ensures) ∙ c.in_ok-after_prefix.ensures.1
    ∙ c.in_default.ensures) in
    let here
    = ap (λ l. length (walk b l rest).nodes) (sym c.node-node.ensures.name)
    ∙ ap (λ (w : Walk). length w.nodes) ends in
    omega (arith, here, c.walk.invariant.cost, c.node-node.ensures.step)

pub returns-in_err-at-clause-reached : goal.returns-in_err-at-clause-reached
returns-in_err-at-clause-reached g c =
    let b = c.args.nodes.now in
    let n = link_of c.node-node.result in
    let rest = c.walk.rest.now in
    let lost
    = walk_lost b n rest c.in-Some.byte c.in-Some.after.now
    (ap (starts_with nat_eq rest) (sym c.prefix.ensures) ∙ c.in_ok-after_prefix.ensures.0)
    (ap (λ p. drop (length p) rest) (sym c.prefix.ensures) ∙ c.in_ok-after_prefix.ensures.1
    ∙ c.in-Some.ensures) c.in_err-at.ensures.none in
    rw c.from_residual-in_err-at.ensures
    (sym (ap (λ (w : Walk). w.reached) lost)
    ∙ ap (λ l. (walk b l rest).reached) c.node-node.ensures.name ∙ c.walk.invariant.reached)

pub returns-in_err-at-clause-cost : goal.returns-in_err-at-clause-cost
returns-in_err-at-clause-cost g c =
    let b = c.args.nodes.now in
    let n = link_of c.node-node.result in
    let rest = c.walk.rest.now in
    let lost
    = walk_lost b n rest c.in-Some.byte c.in-Some.after.now
    (ap (starts_with nat_eq rest) (sym c.prefix.ensures) ∙ c.in_ok-after_prefix.ensures.0)
    (ap (λ p. drop (length p) rest) (sym c.prefix.ensures) ∙ c.in_ok-after_prefix.ensures.1
    ∙ c.in-Some.ensures) c.in_err-at.ensures.none in
    let here
    = ap (λ l. length (walk b l rest).nodes) (sym c.node-node.ensures.name)
    ∙ ap (λ (w : Walk). length w.nodes) lost in
    omega (arith, here, c.walk.invariant.cost, c.node-node.ensures.step)

pub walk-preserved : goal.walk-preserved
walk-preserved g c =
    let b = c.args.nodes.now in
    let n = link_of c.node-node.result in
    let rest = c.walk.rest.now in
    let on
    = walk_child b n rest c.in-Some.byte c.in-Some.after.now c.in_ok-at.at
    (ap (starts_with nat_eq rest) (sym c.prefix.ensures) ∙ c.in_ok-after_prefix.ensures.0)
    (ap (λ p. drop (length p) rest) (sym c.prefix.ensures) ∙ c.in_ok-after_prefix.ensures.1
    ∙ c.in-Some.ensures) c.in_ok-at.ensures.some in
    let here
    = ap (λ l. length (walk b l rest).nodes) (sym c.node-node.ensures.name)
    ∙ ap (λ (w : Walk). length w.nodes) on in
    record {
      node = c.in_ok-at.ensures.node;
      reached
          = sym (ap (λ (w : Walk). w.reached) on)
          ∙ ap (λ l. (walk b l rest).reached) c.node-node.ensures.name
          ∙ c.walk.invariant.reached;
      cost = omega (arith, here, c.walk.invariant.cost, c.node-node.ensures.step);
    }
