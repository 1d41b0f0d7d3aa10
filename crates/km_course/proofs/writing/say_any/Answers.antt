use Rattle.km_course.proofs.Primitives.{say_none, say_some}
use Rattle.km_course.proofs.writing.say_any.Goals as goal

pub returns-then-is_empty : goal.returns-then-is_empty
returns-then-is_empty g c = λ files err. say_none c.args.bytes.now _ c.if-is_empty.ensures

pub returns : goal.returns
returns g c =
    λ files err. say_some c.args.bytes.now _ _ c.say.result c.if-is_empty.ensures
    (c.say.ensures files err)
