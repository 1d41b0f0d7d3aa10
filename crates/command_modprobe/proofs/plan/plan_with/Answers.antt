use Rattle.command_modprobe.proofs.PlanSteps.{planned, not-planned}
use Rattle.command_modprobe.proofs.plan.plan_with.Goals as goal

pub returns-in-Ok : goal.returns-in-Ok
returns-in-Ok c =
    planned c.args.known.now c.args.loaded.now c.args.request.now c.in-Ok.steps
    c.in-Ok.ensures.passed c.in-Ok.ensures.plan

pub returns-in-Err : goal.returns-in-Err
returns-in-Err c =
    not-planned c.args.known.now c.args.loaded.now c.args.request.now c.in-Err.obstacle
    c.refused.result c.refused.ensures c.in-Err.ensures.err
