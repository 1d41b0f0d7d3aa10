use Rattle.std.proofs.Common.{rules}
use Rattle.km_names.specs.Space.{trimmed}
use Rattle.km_names.proofs.space.trimmed.Goals as goal

pub returns : goal.returns
unfolding trimmed
returns c = search rules
