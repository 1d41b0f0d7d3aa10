use Rattle.std.proofs.Common.{true, false, sym}
use Rattle.km_course.proofs.Following.{along}
use Rattle.command_depmod.specs.Files.{text_files}
use Rattle.command_depmod.specs.Outputs.{says_each}
use Rattle.command_depmod.proofs.outputs.say_texts.Goals as goal

pub returns-then-extra : goal.returns-then-extra
returns-then-extra g c = λ files err.
    along (λ extra. says_each c.args.made.now (text_files extra)) true c.args.extra
    (sym c.if-extra.true) (c.say_each.ensures files err)

pub returns : goal.returns
returns g c = λ files err.
    along (λ extra. says_each c.args.made.now (text_files extra)) false c.args.extra
    (sym c.if-extra.false) (c.say_each-2.ensures files err)
