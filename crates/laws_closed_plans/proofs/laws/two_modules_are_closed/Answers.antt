use Rattle.laws_closed_plans.proofs.InstanceLemmas.{two-are-closed}
use Rattle.laws_closed_plans.proofs.laws.two_modules_are_closed.Goals as goal

pub returns : goal.returns
returns c = two-are-closed
