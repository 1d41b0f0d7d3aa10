use Rattle.laws_builtin_aliases.proofs.Found.{are-found}
use Rattle.laws_builtin_aliases.proofs.laws.aliases_are_found.Goals as goal

pub returns : goal.returns
returns c = are-found
