use Rattle.laws_closed_plans.proofs.PlanLemmas.{closed-plans-pass}
use Rattle.laws_closed_plans.proofs.laws.closed_plans_pass.Goals as goal

pub returns : goal.returns
returns c = closed-plans-pass
