use Rattle.laws_headline.proofs.MetLoads.{headline-is-met}
use Rattle.laws_headline.proofs.laws.headline_is_met.Goals as goal

pub returns : goal.returns
returns c = headline-is-met
