use Rattle.std.proofs.Common.{[], ◌∙◌, subst}
use Rattle.std.specs.Prelude.{Err}
use Rattle.std.proofs.lemmas.Result.{err_from_is_err_and}
use Rattle.outside_calls.specs.Contents.{is_conf_name}
use Rattle.outside_calls.specs.FilesSeen.{ListAnswers}
use Rattle.km_course.specs.Course.Outcome.{value}
use Rattle.km_course.proofs.Primitives.{list_ok, list_absent, list_refused, conf_is_path, present}
use Rattle.km_course.proofs.Steps.{wants}
use Rattle.km_course.proofs.reading.list_conf_optional.Goals as goal

pub returns-in_err-named : goal.returns-in_err-named
returns-in_err-named g c = λ out err.
    let p = err_from_is_err_and c.from_residual.result c.from_residual.ensures.1 in
    wants _ _ _ _ p.1 p.2

pub returns-in-Ok : goal.returns-in-Ok
returns-in-Ok g c =
    λ out err. list_ok (value []) is_conf_name c.args.dir.now c.in-Ok.names
    (g.F.Reads.seen c.args.files.now) (g.F.Reads.seen c.list_conf.new.self) out err
    c.in-Ok.ensures.answers

pub returns-in-Absent : goal.returns-in-Absent
returns-in-Absent g c = λ out err. rw c.new.ensures
    (list_absent is_conf_name c.args.dir.now [] (g.F.Reads.seen c.args.files.now)
    (g.F.Reads.seen c.list_conf.new.self) out err
    (subst (λ a. ListAnswers is_conf_name c.args.dir.now (g.F.Reads.seen c.args.files.now)
    (g.F.Reads.seen c.list_conf.new.self) (Err a)) c.in-Absent.is
    c.in-Err.ensures.answers))

pub returns-in-Failed : goal.returns-in-Failed
returns-in-Failed g c =
    λ out err. rw c.stop_at.ensures (rw (c.in_ok-named.ensures ∙ c.as_bytes.ensures)
    (list_refused (value []) is_conf_name c.args.dir.now c.in-Err.answer
    (g.F.Reads.seen c.args.files.now) (g.F.Reads.seen c.list_conf.new.self) out err
    conf_is_path (λ is. absurd (present c.in-Err.answer c.in-Failed.is is))
    c.in-Err.ensures.answers))
