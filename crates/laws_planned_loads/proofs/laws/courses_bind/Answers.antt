use Rattle.laws_planned_loads.proofs.CourseLemmas.{courses-bind}
use Rattle.laws_planned_loads.proofs.EndLemmas.{courses-end}
use Rattle.laws_planned_loads.proofs.laws.courses_bind.Goals as goal

pub returns-clause-bind : goal.returns-clause-bind
returns-clause-bind c = courses-bind

pub returns-clause-stop : goal.returns-clause-stop
returns-clause-stop c = courses-end
