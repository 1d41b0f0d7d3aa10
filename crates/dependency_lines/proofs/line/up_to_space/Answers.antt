use Rattle.std.proofs.Common.{◌∙◌}
use Rattle.km_names.proofs.Ends.{before_first-found, before_first-none}
use Rattle.dependency_lines.proofs.line.up_to_space.Goals as goal

pub returns-in-Some-clause-before : goal.returns-in-Some-clause-before
returns-in-Some-clause-before c =
    c.split_at.ensures.front ∙ before_first-found _ _ _ c.in-Some.ensures

pub returns-in-None-clause-before : goal.returns-in-None-clause-before
returns-in-None-clause-before c = before_first-none _ _ c.in-None.ensures
