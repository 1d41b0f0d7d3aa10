use Rattle.std.proofs.Common.{true, false, sym}
use Rattle.km_course.proofs.Following.{along}
use Rattle.command_depmod.specs.Files.{all_files}
use Rattle.command_depmod.specs.Outputs.{puts_each}
use Rattle.command_depmod.proofs.outputs.put_all.Goals as goal

pub returns-then-extra : goal.returns-then-extra
returns-then-extra g c = λ out err.
    along (λ extra. puts_each c.args.folder.now c.args.made.now (all_files extra)) true c.args.extra
    (sym c.if-extra.true) (c.put_each.ensures out err)

pub returns : goal.returns
returns g c = λ out err.
    along (λ extra. puts_each c.args.folder.now c.args.made.now (all_files extra)) false
    c.args.extra (sym c.if-extra.false) (c.put_each-2.ensures out err)
