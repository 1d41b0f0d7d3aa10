use Rattle.km_names.proofs.Ends.{after_last-found, after_last-none}
use Rattle.km_names.proofs.path.after_last_byte.Goals as goal

pub returns-in-Some : goal.returns-in-Some
returns-in-Some c = after_last-found _ _ _ c.in-Some.ensures

pub returns-in-None : goal.returns-in-None
returns-in-None c = after_last-none _ _ c.in-None.ensures
