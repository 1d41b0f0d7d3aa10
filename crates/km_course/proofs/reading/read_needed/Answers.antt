use Rattle.std.proofs.Common.{refl, ◌∙◌}
use Rattle.std.proofs.lemmas.Result.{err_from_is_err_and}
use Rattle.km_course.specs.Course.Outcome.{end}
use Rattle.km_course.specs.declared.end.End.TheVariants.{NoFile}
use Rattle.km_course.proofs.Primitives.{read_ok, read_refused}
use Rattle.km_course.proofs.Steps.{wants}
use Rattle.km_course.proofs.reading.read_needed.Goals as goal

pub returns-in_err-named-clause-follows : goal.returns-in_err-named-clause-follows
returns-in_err-named-clause-follows g c = λ out err.
    let p = err_from_is_err_and c.from_residual.result c.from_residual.ensures.1 in
    wants _ _ _ _ p.1 p.2

pub returns-in-Ok-clause-follows : goal.returns-in-Ok-clause-follows
returns-in-Ok-clause-follows g c =
    λ out err. read_ok (end (NoFile c.args.path.now)) c.args.path.now c.in-Ok.bytes
    (g.F.Reads.seen c.args.files.now) (g.F.Reads.seen c.read.new.self) out err
    c.in-Ok.ensures.answers

pub returns-in-Err-clause-follows : goal.returns-in-Err-clause-follows
returns-in-Err-clause-follows g c =
    λ out err. rw c.stop_at.ensures (rw (c.in_ok-named.ensures ∙ c.as_bytes.ensures)
    (read_refused (end (NoFile c.args.path.now)) c.args.path.now c.in-Err.answer
    (g.F.Reads.seen c.args.files.now) (g.F.Reads.seen c.read.new.self) out err (λ _. refl)
    c.in-Err.ensures.answers))
