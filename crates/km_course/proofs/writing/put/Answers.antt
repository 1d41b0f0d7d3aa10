use Rattle.std.proofs.Common.{subst}
use Rattle.std.specs.Prelude.{Err}
use Rattle.outside_calls.specs.FilesSeen.{ReplaceAnswers}
use Rattle.km_course.proofs.Primitives.{put_ok, put_failed, put_wanting}
use Rattle.km_course.proofs.writing.put.Goals as goal

pub returns-in-Ok : goal.returns-in-Ok
returns-in-Ok g c =
    λ out err. put_ok c.args.path c.args.bytes.now (g.F.Reads.seen c.args.files.now)
    (g.F.Reads.seen c.replace.new.self) out err c.in-Ok.ensures.answers

pub returns-in-Err-Failed : goal.returns-in-Err-Failed
returns-in-Err-Failed g c = λ out err.
    put_failed c.args.path c.args.bytes.now (g.F.Reads.seen c.args.files.now)
    (g.F.Reads.seen c.replace.new.self) out err
    (subst (λ a. ReplaceAnswers c.args.path c.args.bytes.now (g.F.Reads.seen c.args.files.now)
    (g.F.Reads.seen c.replace.new.self) (Err a)) c.in-Err-Failed.field-0-is
    c.in-Err-Failed.ensures.answers)

pub returns-in-Err-Memory : goal.returns-in-Err-Memory
returns-in-Err-Memory g c = λ out err.
    put_wanting c.args.path c.args.bytes.now (g.F.Reads.seen c.args.files.now)
    (g.F.Reads.seen c.replace.new.self) out err
    (subst (λ a. ReplaceAnswers c.args.path c.args.bytes.now (g.F.Reads.seen c.args.files.now)
    (g.F.Reads.seen c.replace.new.self) (Err a)) c.in-Err-Memory.field-0-is
    c.in-Err-Memory.ensures.answers)
