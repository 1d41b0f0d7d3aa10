use Rattle.std.proofs.Common.{sym, ◌∙◌}
use Rattle.dependency_lines.specs.GoodPaths.{are_good_needs}
use Rattle.dependency_lines.proofs.line.are_found_good.Goals as goal

pub returns-clause-lists : goal.returns-clause-lists
returns-clause-lists g c =
    c.put.ensures (are_good_needs (g.K.KnownNames.has c.args.known.now)) c.requires.lists
    (sym c.in_ok-are_good.ensures.good ∙ c.if-not-branch.false)
