use Rattle.laws_indexed_folder.proofs.StepLemmas.{plans-closed}
use Rattle.laws_indexed_folder.proofs.laws.plans_are_closed.Goals as goal

pub returns : goal.returns
returns c = plans-closed
