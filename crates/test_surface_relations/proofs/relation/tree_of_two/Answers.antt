use Rattle.std.proofs.Common.{length, sym, ap, ◌∙◌}
use Rattle.test_surface_relations.proofs.TreeSteps.{two-modules}
use Rattle.test_surface_relations.proofs.relation.tree_of_two.Goals as goal

pub returns-clause-tree : goal.returns-clause-tree
returns-clause-tree g c =
    two-modules _ _ _ c.facts-first.ensures.good c.facts-second.ensures.good
    (λ same. c.expect_apart.ensures
    (sym c.facts-first.ensures.named ∙ same ∙ c.facts-second.ensures.named))
    c.pair.ensures

pub returns-clause-long : goal.returns-clause-long
returns-clause-long g c = ap length c.pair.ensures
