use Rattle.std.proofs.Common.{◌≡◌, length}
use Rattle.provider_rel.specs.Tree.{IsTree}
use Rattle.test_relations.proofs.LetterSteps.{Fresh}
use Rattle.test_relations.proofs.limits.tree.Given as goal

abbrev pub invariant-loop-number : goal.invariant-loop-number
invariant-loop-number l =
    record {
      good : IsTree l.tree;
      long : length l.tree ≡ l.number;
      fresh : Fresh l.number l.tree;
    }
