use Rattle.std.proofs.lemmas.Result.{err_from_is_err_and}
use Rattle.stages_loads.proofs.ListedSteps.{all-left, one-loaded, one-stopped, none-left}
use Rattle.stages_loads.proofs.listed.load_listed.Goals as goal

pub loop-left-init : goal.loop-left-init
loop-left-init g c = all-left

pub returns-in_err-machine : goal.returns-in_err-machine
returns-in_err-machine g c =
    let p = err_from_is_err_and c.from_residual.result c.from_residual.ensures.1 in
    one-stopped c.loop-left.invariant c.loop-left-test.true c.index-names-left.is p.1 p.2
    c.in_err-machine.ensures

pub loop-left-preserved : goal.loop-left-preserved
loop-left-preserved g c =
    one-loaded c.loop-left.invariant c.loop-left-test.true c.index-names-left.is
    c.in_ok-machine.ensures

pub returns : goal.returns
returns g c = none-left c.loop-left.invariant c.loop-left-test.false
