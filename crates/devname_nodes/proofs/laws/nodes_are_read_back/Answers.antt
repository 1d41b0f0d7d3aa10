use Rattle.devname_nodes.proofs.WrittenSteps.{read-back}
use Rattle.devname_nodes.proofs.laws.nodes_are_read_back.Goals as goal

pub returns : goal.returns
returns c = read-back
