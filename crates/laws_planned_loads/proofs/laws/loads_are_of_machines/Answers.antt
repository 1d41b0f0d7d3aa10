use Rattle.laws_planned_loads.proofs.LoadLemmas.{loads-are-of-machine}
use Rattle.laws_planned_loads.proofs.ListedLemmas.{listed-are-of-machine}
use Rattle.laws_planned_loads.proofs.ListedLemmas.{listed-loads-are-of-machine}
use Rattle.laws_planned_loads.proofs.laws.loads_are_of_machines.Goals as goal

pub returns-clause-planned : goal.returns-clause-planned
returns-clause-planned c = loads-are-of-machine

pub returns-clause-listed : goal.returns-clause-listed
returns-clause-listed c = listed-loads-are-of-machine

pub returns-clause-given : goal.returns-clause-given
returns-clause-given c = listed-are-of-machine
