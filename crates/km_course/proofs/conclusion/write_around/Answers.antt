use Rattle.std.proofs.Common.{◌++◌, subst, sym}
use Rattle.std.specs.Prelude.{Ok, Err}
use Rattle.std.proofs.lemmas.Result.{err_from_is_err_and}
use Rattle.outside_calls.specs.OutSeen.{WriteAnswers}
use Rattle.km_course.proofs.Writes.{writes_on, writes_cut}
use Rattle.km_course.proofs.conclusion.write_around.Goals as goal

pub returns-in_err-write-2 : goal.returns-in_err-write-2
returns-in_err-write-2 g c =
    let p
    = err_from_is_err_and c.from_residual-in_err-write-2.result
    c.from_residual-in_err-write-2.ensures.1 in
    subst (λ r. WriteAnswers ((c.args.before.now ++ c.args.middle.now) ++ c.args.after.now)
    (g.E.Out.seen c.args.err.now) (g.E.Out.seen c.write-2.new.self) r) (sym p.1)
    (writes_cut (c.args.before.now ++ c.args.middle.now) c.args.after.now _
    (g.E.Out.seen c.write-2.new.self) p.0
    (writes_on c.args.before.now c.args.middle.now _ (g.E.Out.seen c.write.new.self) _ (Err p.0)
    c.in_ok-write.ensures.answers c.in_err-write-2.ensures.answers))

pub returns : goal.returns
returns g c =
    writes_on (c.args.before.now ++ c.args.middle.now) c.args.after.now _
    (g.E.Out.seen c.write-2.new.self) _ c.write-3.result
    (writes_on c.args.before.now c.args.middle.now _ (g.E.Out.seen c.write.new.self)
    (g.E.Out.seen c.write-2.new.self) (Ok tt) c.in_ok-write.ensures.answers
    c.in_ok-write-2.ensures.answers)
    c.write-3.ensures.answers
