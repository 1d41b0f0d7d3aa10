use Rattle.laws_planned_removals.proofs.EndedLemmas.{loads-come-to-last, loads-leave-folder}
use Rattle.laws_planned_removals.proofs.MeetLemmas.{removal-meets-load}
use Rattle.laws_planned_removals.proofs.laws.removal_meets_load.Goals as goal

pub returns-clause-load : goal.returns-clause-load
returns-clause-load c = loads-come-to-last

pub returns-clause-folder : goal.returns-clause-folder
returns-clause-folder c = loads-leave-folder

pub returns-clause-removal : goal.returns-clause-removal
returns-clause-removal c = removal-meets-load
