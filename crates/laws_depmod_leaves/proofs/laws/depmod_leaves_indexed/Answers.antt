use Rattle.laws_depmod_leaves.proofs.LeftLemmas.{left-indexed}
use Rattle.laws_depmod_leaves.proofs.laws.depmod_leaves_indexed.Goals as goal

pub returns : goal.returns
returns c = left-indexed
