use Rattle.km_course.proofs.Primitives.{say_ok, say_failed}
use Rattle.km_course.proofs.writing.say.Goals as goal

pub returns-in-Ok : goal.returns-in-Ok
returns-in-Ok g c = λ files err. say_ok _ files _ _ err c.in-Ok.ensures.answers

pub returns-in-Err : goal.returns-in-Err
returns-in-Err g c = λ files err. say_failed _ _ files _ _ err c.in-Err.ensures.answers
