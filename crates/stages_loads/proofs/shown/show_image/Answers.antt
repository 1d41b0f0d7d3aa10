use Rattle.std.proofs.lemmas.Result.{err_from_is_err_and}
use Rattle.km_course.specs.Course.{says}
use Rattle.km_course.proofs.Steps.{next, exits}
use Rattle.km_course.proofs.Following.{along}
use Rattle.stages_loads.proofs.LoadSteps.{line_said}
use Rattle.stages_loads.proofs.shown.show_image.Goals as goal

pub returns-in_err-put_image : goal.returns-in_err-put_image
returns-in_err-put_image g c = λ err.
    let p = err_from_is_err_and c.from_residual.result c.from_residual.ensures.1 in
    exits _ _ (line_said c.args.line.now) p.1 p.2
    (c.in_err-put_image.ensures (g.O.Out.seen c.args.out.now) err)

pub returns : goal.returns
returns g c = λ err.
    next (line_said c.args.line.now) (c.in_ok-put_image.ensures (g.O.Out.seen c.args.out.now) err)
    (along says _ _ c.as_bytes.ensures (c.say.ensures (g.F.Reads.seen c.put_image.new.files) err))
