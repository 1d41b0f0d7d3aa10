use Rattle.remove_plan.proofs.RemovalLemmas.{removed-are-least, removed-are-one}
use Rattle.remove_plan.proofs.laws.removed_are_least.Goals as goal

pub returns-clause-least : goal.returns-clause-least
returns-clause-least c = removed-are-least

pub returns-clause-one : goal.returns-clause-one
returns-clause-one c = removed-are-one
