use Rattle.std.proofs.Common.{◌++◌, ◌∷◌, [], ap, ◌∙◌}
use Rattle.test_relations.proofs.TreeSteps.{one-tree}
use Rattle.test_relations.proofs.kernels.tree_of_one.Goals as goal

pub returns : goal.returns
returns c =
    one-tree c.push.new.self c.args.facts c.requires
    (c.in_ok-push.ensures.ok ∙ ap (λ l. l ++ c.args.facts ∷ []) c.new-tree.ensures)
