use Rattle.std.proofs.Common.{◌≡◌, sym, ap, subst, [], Some, slice_get, arith}
use Rattle.std.specs.Prelude.{IfNone, IfSome}
use Rattle.index_format.specs.Walk.{values_at, at}
use Rattle.index_nodes.specs.Places.{value_at}
use Rattle.index_read.proofs.ReachLemmas.{visits-few}
use Rattle.index_read.proofs.ContentsLemmas.{held}
use Rattle.index_read.proofs.index.Index.find_one.Goals as goal

pub returns-in_err-node-clause-none : goal.returns-in_err-node-clause-none
unfolding at
returns-in_err-node-clause-none g c =
    rw c.from_residual.ensures
    (ap (values_at c.args.self.now.nodes) (sym c.in_err-node.ensures.reached))

pub returns-in_err-node-clause-few : goal.returns-in_err-node-clause-few
returns-in_err-node-clause-few g c =
    omega (arith, c.reach.ensures.cost, visits-few c.args.self.now.nodes c.args.key.now)

pub returns-clause-none : goal.returns-clause-none
unfolding at
returns-clause-none g c =
    subst (λ vs. IfNone c.first_value.result (vs ≡ []))
    (ap (values_at c.args.self.now.nodes) c.in_ok-node.ensures.reached)
    c.first_value.ensures.none

pub returns-clause-first : goal.returns-clause-first
unfolding at
returns-clause-first g c =
    subst (λ vs. IfSome c.first_value.result
    (λ place. slice_get vs 0 ≡ Some (value_at c.args.self.now.nodes place)))
    (ap (values_at c.args.self.now.nodes) c.in_ok-node.ensures.reached)
    c.first_value.ensures.first

pub returns-clause-few : goal.returns-clause-few
returns-clause-few g c =
    omega (arith, c.reach.ensures.cost, visits-few c.args.self.now.nodes c.args.key.now)

pub returns-in_err-node-clause-held : goal.returns-in_err-node-clause-held
returns-in_err-node-clause-held g c = held c.args.self.now.nodes c.reach.ensures.accepted

pub returns-clause-held : goal.returns-clause-held
returns-clause-held g c = held c.args.self.now.nodes c.reach.ensures.accepted
