use Rattle.laws_removal.proofs.PassLemmas.{removals-pass}
use Rattle.laws_removal.proofs.UnloadedLemmas.{removals-are-unloaded, removals-stay-sound}
use Rattle.laws_removal.proofs.laws.removals_pass.Goals as goal

pub returns-clause-places : goal.returns-clause-places
returns-clause-places c = removals-pass

pub returns-clause-names : goal.returns-clause-names
returns-clause-names c = removals-are-unloaded

pub returns-clause-sound : goal.returns-clause-sound
returns-clause-sound c = removals-stay-sound
