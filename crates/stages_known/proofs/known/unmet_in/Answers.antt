use Rattle.unmet_file.specs.Unmet.{unmet_of}
use Rattle.stages_files.proofs.StatedSteps.{stated_ok, stated_fault}
use Rattle.stages_known.proofs.known.unmet_in.Goals as goal

pub returns-in-Ok : goal.returns-in-Ok
returns-in-Ok c =
    stated_ok (unmet_of c.args.file.now c.args.bytes.now) c.in-Ok.unmet c.in-Ok.ensures.ok

pub returns-in-Err : goal.returns-in-Err
returns-in-Err c =
    stated_fault (unmet_of c.args.file.now c.args.bytes.now) c.in-Err.fault c.stop_of_fault.result
    c.stop_of_fault.ensures c.in-Err.ensures.err
