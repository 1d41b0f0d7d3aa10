use Rattle.laws_closed_plans.proofs.BindingLemmas.{closed-plans-bind}
use Rattle.laws_closed_plans.proofs.laws.closed_plans_bind.Goals as goal

pub returns : goal.returns
returns c = closed-plans-bind
