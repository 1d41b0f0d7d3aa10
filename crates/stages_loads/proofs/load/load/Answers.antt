use Rattle.stages_loads.proofs.LoadSteps.{loaded_ok, stopped}
use Rattle.stages_loads.proofs.load.load.Goals as goal

pub returns-in-Ok : goal.returns-in-Ok
returns-in-Ok c =
    loaded_ok c.args.cause c.args.module.now.facts.name _ c.load.new.self c.in-Ok.ensures.step

pub returns-in-Err : goal.returns-in-Err
returns-in-Err c =
    stopped c.args.cause c.args.module.now.facts.name _ c.in-Err.fault c.load_stop-stop.result
    c.in-Err.ensures.fault c.load_stop-stop.ensures.memory c.load_stop-stop.ensures.refused
