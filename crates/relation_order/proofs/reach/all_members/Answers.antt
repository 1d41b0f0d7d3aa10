use Rattle.std.proofs.Common.{ap, ◌∙◌}
use Rattle.relation_order.specs.Sets.{marked}
use Rattle.relation_order.proofs.Answering.{marked-all}
use Rattle.relation_order.proofs.reach.all_members.Goals as goal

pub returns-clause-members : goal.returns-clause-members
returns-clause-members c = ap marked c.in_ok-marks.ensures ∙ marked-all c.args.count
