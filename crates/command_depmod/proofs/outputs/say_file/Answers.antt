use Rattle.km_course.specs.Course.{says_any}
use Rattle.km_course.proofs.Following.{along}
use Rattle.command_depmod.proofs.outputs.say_file.Goals as goal

pub returns : goal.returns
returns g c = λ files err. along says_any _ _ c.content.ensures (c.say_any.ensures files err)
