use Rattle.laws_removal.proofs.LoadLemmas.{loads-undone, loads-unloaded}
use Rattle.laws_removal.proofs.laws.loads_are_undone.Goals as goal

pub returns-clause-places : goal.returns-clause-places
returns-clause-places c = loads-undone

pub returns-clause-names : goal.returns-clause-names
returns-clause-names c = loads-unloaded
