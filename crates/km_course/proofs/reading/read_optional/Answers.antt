use Rattle.std.proofs.Common.{[], ◌∙◌, subst}
use Rattle.std.specs.Prelude.{Err}
use Rattle.std.proofs.lemmas.Result.{err_from_is_err_and}
use Rattle.outside_calls.specs.FilesSeen.{ReadAnswers}
use Rattle.km_course.specs.Course.Outcome.{value}
use Rattle.km_course.proofs.Primitives.{read_ok, read_absent, read_refused, present}
use Rattle.km_course.proofs.Steps.{wants}
use Rattle.km_course.proofs.reading.read_optional.Goals as goal

pub returns-in_err-named-clause-follows : goal.returns-in_err-named-clause-follows
returns-in_err-named-clause-follows g c = λ out err.
    let p = err_from_is_err_and c.from_residual.result c.from_residual.ensures.1 in
    wants _ _ _ _ p.1 p.2

pub returns-in-Ok-clause-follows : goal.returns-in-Ok-clause-follows
returns-in-Ok-clause-follows g c =
    λ out err. read_ok (value []) c.args.path.now c.in-Ok.bytes (g.F.Reads.seen c.args.files.now)
    (g.F.Reads.seen c.read.new.self) out err c.in-Ok.ensures.answers

pub returns-in-Absent-clause-follows : goal.returns-in-Absent-clause-follows
returns-in-Absent-clause-follows g c = λ out err. rw c.new.ensures
    (read_absent c.args.path.now [] (g.F.Reads.seen c.args.files.now)
    (g.F.Reads.seen c.read.new.self) out err
    (subst (λ a. ReadAnswers c.args.path.now (g.F.Reads.seen c.args.files.now)
    (g.F.Reads.seen c.read.new.self) (Err a)) c.in-Absent.is c.in-Err.ensures.answers))

pub returns-in-Failed-clause-follows : goal.returns-in-Failed-clause-follows
returns-in-Failed-clause-follows g c =
    λ out err. rw c.stop_at.ensures (rw (c.in_ok-named.ensures ∙ c.as_bytes.ensures)
    (read_refused (value []) c.args.path.now c.in-Err.answer (g.F.Reads.seen c.args.files.now)
    (g.F.Reads.seen c.read.new.self) out err
    (λ is. absurd (present c.in-Err.answer c.in-Failed.is is)) c.in-Err.ensures.answers))
