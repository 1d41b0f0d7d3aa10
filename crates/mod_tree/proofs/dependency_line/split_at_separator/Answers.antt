use Rattle.std.proofs.Common.{◌∙◌}
use Rattle.mod_tree.proofs.SeparatorSteps.{separator-found, separator-none}
use Rattle.mod_tree.proofs.dependency_line.split_at_separator.Goals as goal

pub returns-in-Some-clause-before : goal.returns-in-Some-clause-before
returns-in-Some-clause-before c = c.split_at.ensures.front ∙ separator-found _ _ c.in-Some.ensures

pub returns-in-None-clause-before : goal.returns-in-None-clause-before
returns-in-None-clause-before c = separator-none _ c.in-None.ensures
