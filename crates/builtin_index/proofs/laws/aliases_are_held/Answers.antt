use Rattle.builtin_index.proofs.Held.{held}
use Rattle.builtin_index.proofs.laws.aliases_are_held.Goals as goal

pub returns : goal.returns
returns c = held
