use Rattle.relation_order.proofs.DistanceLaws.{distance-is}
use Rattle.relation_order.proofs.laws.distance_is_shortest.Goals as goal

pub returns : goal.returns
returns c = distance-is
