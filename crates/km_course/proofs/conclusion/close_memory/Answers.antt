use Rattle.std.proofs.Common.{◌≡◌, refl}
use Rattle.std.specs.Prelude.{Result, Ok, Err, ⊤}
use Rattle.outside_calls.specs.declared.out.OutFailed.{OutFailed}
use Rattle.km_course.specs.Carries.{closed_status}
use Rattle.km_course.specs.declared.stop.Stop.TheVariants.{Memory}
use Rattle.km_course.proofs.conclusion.close_memory.Goals as goal

-- the status doesn't depend on whether the line was written
memory_status : (answer : Result ⊤ OutFailed) → 4 ≡ closed_status Memory answer
memory_status (Ok _) = refl
memory_status (Err _) = refl

pub returns : goal.returns
returns g c = (c.write.result, c.write.ensures.answers, memory_status c.write.result)
