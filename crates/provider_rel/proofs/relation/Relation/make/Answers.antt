use Rattle.provider_rel.specs.Faces.{modules_of, kernel_of}
use Rattle.provider_rel.specs.Seen.{provider_by, closures_by, obstacles_by}
use Rattle.provider_rel.proofs.MakeSteps.{provider-placed}
use Rattle.provider_rel.proofs.relation.Relation.make.Goals as goal

pub returns-clause-ok : goal.returns-clause-ok
unfolding provider_by closures_by obstacles_by
returns-clause-ok c =
    let b = c.in_ok-bindings.bindings in
    let made = c.in_ok-bindings.ensures.ok in
    let lists = c.in_ok-lists in
    record {
      provider
          = λ x. provider-placed (modules_of c.args.tree.now) (kernel_of c.args.kernel.now) b.names
          b.items.items lists.lists.owners.items b.known x made.items_are made.names_are
          lists.ensures.owners made.known_is;
      closures = lists.ensures.closures;
      obstacles = lists.ensures.unmet;
    }
