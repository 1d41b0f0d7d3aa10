use Rattle.std.proofs.Common.{sym}
use Rattle.std.specs.Prelude.{⊤}
use Rattle.km_course.proofs.Steps.{gave}
use Rattle.km_course.proofs.Following.{along}
use Rattle.command_remove.specs.Remove.{unloads_unless}
use Rattle.command_remove.proofs.unloads.unload_unless.Goals as goal

pub returns-then-dry_run : goal.returns-then-dry_run
returns-then-dry_run g c = λ files err.
    along (λ dry. unloads_unless dry c.args.machine.now c.args.steps.now) _ c.args.dry_run
    (sym c.if-dry_run.true) (gave (λ (x : ⊤). x) _ tt)

pub returns : goal.returns
returns g c = λ files err.
    along (λ dry. unloads_unless dry c.args.machine.now c.args.steps.now) _ c.args.dry_run
    (sym c.if-dry_run.false) (c.unload_and_list.ensures files err)
