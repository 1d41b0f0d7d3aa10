use Rattle.std.proofs.Common.{◌+◌, drop}
use Rattle.std.specs.Prelude.{⊤}
use Rattle.std.proofs.lemmas.Result.{err_from_is_err_and}
use Rattle.km_course.proofs.Steps.{exits, leads-on}
use Rattle.km_course.proofs.Following.{leads-item, leads-done}
use Rattle.command_depmod.proofs.WarningSteps.{warns_of, warns_others}
use Rattle.command_depmod.proofs.warnings.warn_each.Goals as goal

pub returns-in_err-warn_of : goal.returns-in_err-warn_of
returns-in_err-warn_of g c = λ files out.
    let p = err_from_is_err_and c.from_residual.result c.from_residual.ensures.1 in
    let obstacles = c.args.obstacles.now in
    leads-item (λ (x : ⊤). x) _ _ _ (warns_of c.args.versions) tt obstacles
    c.loop-obstacle.obstacle-index c.obstacle-item.result c.loop-obstacle-test.true
    c.obstacle-item.is (c.loop-obstacle.invariant files out) _ _
    (exits _ _ (warns_others c.args.versions (drop (c.loop-obstacle.obstacle-index + 1) obstacles))
    p.1 p.2 (c.in_err-warn_of.ensures files out))

pub loop-obstacle-preserved : goal.loop-obstacle-preserved
loop-obstacle-preserved g c = λ files out.
    let obstacles = c.args.obstacles.now in
    leads-on (λ (x : ⊤). x) _ _ _ _ (warns_of c.args.versions) tt c.obstacle-item.result
    (drop (c.loop-obstacle.obstacle-index + 1) obstacles) tt
    (leads-item (λ (x : ⊤). x) _ _ _ (warns_of c.args.versions) tt obstacles
    c.loop-obstacle.obstacle-index c.obstacle-item.result c.loop-obstacle-test.true
    c.obstacle-item.is (c.loop-obstacle.invariant files out))
    (c.in_ok-warn_of.ensures files out)

pub returns : goal.returns
returns g c = λ files out.
    leads-done (λ (x : ⊤). x) _ _ _ (warns_of c.args.versions) tt c.args.obstacles.now
    c.loop-obstacle.obstacle-index c.loop-obstacle-test.false
    (c.loop-obstacle.invariant files out)
