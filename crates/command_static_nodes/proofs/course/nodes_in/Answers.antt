use Rattle.devname_nodes.specs.File.{read_of}
use Rattle.stages_files.proofs.StatedSteps.{stated_ok, stated_fault}
use Rattle.command_static_nodes.proofs.course.nodes_in.Goals as goal

pub returns-in-Ok : goal.returns-in-Ok
returns-in-Ok c =
    stated_ok (read_of c.args.file.now c.args.bytes.now) c.in-Ok.nodes c.in-Ok.ensures.ok

pub returns-in-Err : goal.returns-in-Err
returns-in-Err c =
    stated_fault (read_of c.args.file.now c.args.bytes.now) c.in-Err.fault c.stop_of_fault.result
    c.stop_of_fault.ensures c.in-Err.ensures.err
