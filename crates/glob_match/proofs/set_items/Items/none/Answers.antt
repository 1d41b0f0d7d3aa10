use Rattle.glob_match.proofs.RunLemmas.{no_items}
use Rattle.glob_match.proofs.set_items.Items.none.Goals as goal

pub returns-clause-items : goal.returns-clause-items
returns-clause-items c b = no_items b c.args.at
