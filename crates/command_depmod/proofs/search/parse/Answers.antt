use Rattle.stages_files.proofs.StatedSteps.{stated_ok, stated_fault}
use Rattle.command_depmod.proofs.search.parse.Goals as goal

pub returns-in-Ok : goal.returns-in-Ok
returns-in-Ok c = stated_ok _ c.in-Ok.search c.in-Ok.ensures.ok

pub returns-in-Err : goal.returns-in-Err
returns-in-Err c =
    stated_fault _ c.in-Err.fault c.stop_of_fault.result c.stop_of_fault.ensures
    c.in-Err.ensures.err
