use Rattle.builtin_index.proofs.ByPlace.{by-place}
use Rattle.builtin_index.proofs.laws.aliases_are_by_place.Goals as goal

pub returns : goal.returns
returns c = by-place
