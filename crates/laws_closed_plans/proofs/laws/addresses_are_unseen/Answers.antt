use Rattle.laws_closed_plans.proofs.AddressLemmas.{addresses-are-unseen}
use Rattle.laws_closed_plans.proofs.laws.addresses_are_unseen.Goals as goal

pub returns : goal.returns
returns c = addresses-are-unseen
