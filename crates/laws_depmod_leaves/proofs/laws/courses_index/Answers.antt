use Rattle.laws_depmod_leaves.proofs.CourseLemmas.{courses-index}
use Rattle.laws_depmod_leaves.proofs.laws.courses_index.Goals as goal

pub returns : goal.returns
returns c = courses-index
