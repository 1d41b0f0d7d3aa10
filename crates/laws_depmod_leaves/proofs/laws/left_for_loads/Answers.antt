use Rattle.laws_depmod_leaves.proofs.TableLemmas.{left-for-loads}
use Rattle.laws_depmod_leaves.proofs.laws.left_for_loads.Goals as goal

pub returns : goal.returns
returns c = left-for-loads
