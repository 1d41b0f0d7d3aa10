use Rattle.relation_order.proofs.SpreadLaws.{spread-is-least}
use Rattle.relation_order.proofs.laws.spread_is_least.Goals as goal

pub returns : goal.returns
returns c = spread-is-least
