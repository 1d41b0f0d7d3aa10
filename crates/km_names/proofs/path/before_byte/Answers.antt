use Rattle.km_names.proofs.Ends.{before_first-found, before_first-none}
use Rattle.km_names.proofs.path.before_byte.Goals as goal

pub returns-in-Some : goal.returns-in-Some
returns-in-Some c = before_first-found _ _ _ c.in-Some.ensures

pub returns-in-None : goal.returns-in-None
returns-in-None c = before_first-none _ _ c.in-None.ensures
