use Rattle.laws_planned_removals.proofs.ListedLemmas.{listed-are-taken}
use Rattle.laws_planned_removals.proofs.laws.listed_are_taken.Goals as goal

pub returns : goal.returns
returns c = listed-are-taken
