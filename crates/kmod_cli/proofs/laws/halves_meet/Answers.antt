use Rattle.kmod_cli.proofs.HalvesLaw.{halves-meet}
use Rattle.kmod_cli.proofs.laws.halves_meet.Goals as goal

pub returns : goal.returns
returns c = halves-meet
