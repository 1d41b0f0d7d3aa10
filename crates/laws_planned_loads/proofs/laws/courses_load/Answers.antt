use Rattle.laws_planned_loads.proofs.WholeLemmas.{courses-load}
use Rattle.laws_planned_loads.proofs.laws.courses_load.Goals as goal

pub returns : goal.returns
returns c = courses-load
