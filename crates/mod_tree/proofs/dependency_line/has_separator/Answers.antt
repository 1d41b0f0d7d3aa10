use Rattle.std.proofs.Common.{◌∙◌}
use Rattle.mod_tree.proofs.SeparatorSteps.{separator-any}
use Rattle.mod_tree.proofs.dependency_line.has_separator.Goals as goal

pub returns : goal.returns
returns c = c.is_some.ensures ∙ separator-any _ _ c.memchr3.ensures
