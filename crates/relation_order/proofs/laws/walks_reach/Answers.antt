use Rattle.relation_order.proofs.ReachedLaws.{reached-walk}
use Rattle.relation_order.proofs.laws.walks_reach.Goals as goal

pub returns : goal.returns
returns c = reached-walk
