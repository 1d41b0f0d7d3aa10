use Rattle.km_course.proofs.Primitives.{warn_ok, warn_failed}
use Rattle.km_course.proofs.writing.warn.Goals as goal

pub returns-in-Ok : goal.returns-in-Ok
returns-in-Ok g c = λ files out. warn_ok _ files out _ _ c.in-Ok.ensures.answers

pub returns-in-Err : goal.returns-in-Err
returns-in-Err g c = λ files out. warn_failed _ _ files out _ _ c.in-Err.ensures.answers
