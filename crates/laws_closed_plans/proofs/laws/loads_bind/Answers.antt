use Rattle.laws_closed_plans.proofs.LoadLemmas.{load-append}
use Rattle.laws_closed_plans.proofs.BindingLemmas.{loads-bind}
use Rattle.laws_closed_plans.proofs.laws.loads_bind.Goals as goal

pub returns-clause-follow : goal.returns-clause-follow
returns-clause-follow c = load-append

pub returns-clause-bind : goal.returns-clause-bind
returns-clause-bind c = loads-bind
