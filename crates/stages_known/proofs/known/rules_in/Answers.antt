use Rattle.modprobe_conf.specs.Rules.{rules_of}
use Rattle.stages_files.proofs.StatedSteps.{stated_ok, stated_fault}
use Rattle.stages_known.proofs.known.rules_in.Goals as goal

pub returns-in-Ok : goal.returns-in-Ok
returns-in-Ok c = stated_ok (rules_of c.args.files.now) c.in-Ok.rules c.in-Ok.ensures.ok

pub returns-in-Err : goal.returns-in-Err
returns-in-Err c =
    stated_fault (rules_of c.args.files.now) c.in-Err.fault c.stop_of_fault.result
    c.stop_of_fault.ensures c.in-Err.ensures.err
