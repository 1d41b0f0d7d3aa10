use Rattle.std.proofs.Common.{sym}
use Rattle.std.specs.Prelude.{⊤}
use Rattle.km_course.proofs.Steps.{chosen, passed_over}
use Rattle.command_depmod.proofs.outputs.hand_out.Goals as goal

pub returns-then-dry_run : goal.returns-then-dry_run
returns-then-dry_run g c = λ err.
    chosen (λ (x : ⊤). x) _ _ _ _ _ _ (sym c.if-dry_run.true)
    (c.say_texts.ensures (g.F.Reads.seen c.args.files.now) err)

pub returns : goal.returns
returns g c = λ err.
    passed_over (λ (x : ⊤). x) _ _ _ _ _ _ (sym c.if-dry_run.false)
    (c.put_all.ensures (g.O.Out.seen c.args.out.now) err)
