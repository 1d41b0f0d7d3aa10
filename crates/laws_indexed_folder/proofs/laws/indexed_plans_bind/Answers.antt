use Rattle.laws_indexed_folder.proofs.BindingLemmas.{indexed-plans-bind}
use Rattle.laws_indexed_folder.proofs.laws.indexed_plans_bind.Goals as goal

pub returns : goal.returns
returns c = indexed-plans-bind
