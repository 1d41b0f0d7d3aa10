use Rattle.std.proofs.Common.{ap, ◌∙◌, ◌++◌, arith}
use Rattle.index_format.specs.Node.{values}
use Rattle.index_format.specs.Walk.{values_at, at}
use Rattle.index_nodes.specs.Fields.{link_of}
use Rattle.index_read.specs.Values.{found_values}
use Rattle.index_read.proofs.ReachLemmas.{visits-few}
use Rattle.index_read.proofs.ContentsLemmas.{held}
use Rattle.index_read.proofs.index.Index.find.Goals as goal

pub returns-in_default-clause-values : goal.returns-in_default-clause-values
unfolding at
returns-in_default-clause-values g c =
    ap found_values c.new.ensures
    ∙ ap (values_at c.args.self.now.nodes) c.in_default.ensures.reached

pub returns-in_default-clause-map : goal.returns-in_default-clause-map
unfolding at
returns-in_default-clause-map g c =
    λ m h. ap found_values c.new.ensures
    ∙ ap (values_at c.args.self.now.nodes) c.in_default.ensures.reached
    ∙ h.values c.args.key.now

pub returns-in_default-clause-few : goal.returns-in_default-clause-few
returns-in_default-clause-few g c =
    omega (arith, c.reach.ensures.cost, visits-few c.args.self.now.nodes c.args.key.now)

pub returns-in_err-push_values-clause-few : goal.returns-in_err-push_values-clause-few
returns-in_err-push_values-clause-few g c =
    omega (arith, c.reach.ensures.cost, visits-few c.args.self.now.nodes c.args.key.now)

pub returns-clause-values : goal.returns-clause-values
unfolding at
returns-clause-values g c =
    let b = c.args.self.now.nodes in
    ap found_values c.from_vec.ensures
    ∙ c.in_ok-push_values.ensures
    ∙ ap (λ vs. found_values vs ++ values b (link_of c.in-Some.node)) c.new-found.ensures.items
    ∙ ap (values_at b) c.in-Some.ensures.reached

pub returns-clause-map : goal.returns-clause-map
unfolding at
returns-clause-map g c =
    let b = c.args.self.now.nodes in
    λ m h.
    ap found_values c.from_vec.ensures
    ∙ c.in_ok-push_values.ensures
    ∙ ap (λ vs. found_values vs ++ values b (link_of c.in-Some.node)) c.new-found.ensures.items
    ∙ ap (values_at b) c.in-Some.ensures.reached
    ∙ h.values c.args.key.now

pub returns-clause-few : goal.returns-clause-few
returns-clause-few g c =
    omega (arith, c.reach.ensures.cost, visits-few c.args.self.now.nodes c.args.key.now)

pub returns-in_default-clause-held : goal.returns-in_default-clause-held
returns-in_default-clause-held g c = held c.args.self.now.nodes c.reach.ensures.accepted

pub returns-in_err-push_values-clause-held : goal.returns-in_err-push_values-clause-held
returns-in_err-push_values-clause-held g c = held c.args.self.now.nodes c.reach.ensures.accepted

pub returns-clause-held : goal.returns-clause-held
returns-clause-held g c = held c.args.self.now.nodes c.reach.ensures.accepted
