use Rattle.std.proofs.Common.{refl, ◌∙◌}
use Rattle.std.proofs.lemmas.Result.{err_from_is_err_and}
use Rattle.outside_calls.specs.Contents.{is_conf_name}
use Rattle.km_course.specs.Course.Outcome.{end}
use Rattle.km_course.specs.declared.end.End.TheVariants.{NoFile}
use Rattle.km_course.proofs.Primitives.{list_ok, list_refused, conf_is_path}
use Rattle.km_course.proofs.Steps.{wants}
use Rattle.km_course.proofs.reading.list_conf_needed.Goals as goal

pub returns-in_err-named : goal.returns-in_err-named
returns-in_err-named g c = λ out err.
    let p = err_from_is_err_and c.from_residual.result c.from_residual.ensures.1 in
    wants _ _ _ _ p.1 p.2

pub returns-in-Ok : goal.returns-in-Ok
returns-in-Ok g c =
    λ out err. list_ok (end (NoFile c.args.dir.now)) is_conf_name c.args.dir.now c.in-Ok.names
    (g.F.Reads.seen c.args.files.now) (g.F.Reads.seen c.list_conf.new.self) out err
    c.in-Ok.ensures.answers

pub returns-in-Err : goal.returns-in-Err
returns-in-Err g c =
    λ out err. rw c.stop_at.ensures (rw (c.in_ok-named.ensures ∙ c.as_bytes.ensures)
    (list_refused (end (NoFile c.args.dir.now)) is_conf_name c.args.dir.now c.in-Err.answer
    (g.F.Reads.seen c.args.files.now) (g.F.Reads.seen c.list_conf.new.self) out err
    conf_is_path (λ _. refl) c.in-Err.ensures.answers))
