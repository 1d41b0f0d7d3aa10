use Rattle.glob_pattern.proofs.DecisionLemmas.{decision}
use Rattle.glob_pattern.proofs.laws.matches_are_decided.Goals as goal

pub returns : goal.returns
returns c = decision
