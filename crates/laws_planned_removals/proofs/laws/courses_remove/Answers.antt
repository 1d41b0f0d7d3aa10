use Rattle.laws_planned_removals.proofs.CourseLemmas.{courses-remove}
use Rattle.laws_planned_removals.proofs.laws.courses_remove.Goals as goal

pub returns : goal.returns
returns c = courses-remove
