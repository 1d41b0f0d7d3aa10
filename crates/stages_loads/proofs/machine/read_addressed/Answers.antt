use Rattle.std.proofs.Common.{sym}
use Rattle.stages_loads.specs.Tables.{reads_addressed}
use Rattle.km_course.proofs.Following.{along}
use Rattle.stages_loads.proofs.machine.read_addressed.Goals as goal

pub returns-in-None : goal.returns-in-None
returns-in-None g c =
    λ out err. along (reads_addressed c.args.system_map) _ _ (sym c.in-None.is)
    (c.read_map.ensures out err)

pub returns-in-Some : goal.returns-in-Some
returns-in-Some g c =
    λ out err. along (reads_addressed c.args.system_map) _ _ (sym c.in-Some.is)
    (c.read_both.ensures out err)
