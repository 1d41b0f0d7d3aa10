use Rattle.kmod_cli.proofs.LookupsLaw.{lookups-meet}
use Rattle.kmod_cli.proofs.laws.lookups_meet.Goals as goal

pub returns : goal.returns
returns c = lookups-meet
