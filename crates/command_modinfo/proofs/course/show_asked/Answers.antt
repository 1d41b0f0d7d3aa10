use Rattle.std.proofs.Common.{subst}
use Rattle.std.specs.Prelude.{⊤}
use Rattle.std.proofs.lemmas.Result.{err_from_is_err_and}
use Rattle.km_course.specs.World.{world}
use Rattle.km_course.specs.Follows.{Follows}
use Rattle.km_course.proofs.Steps.{next, exits}
use Rattle.command_modinfo.specs.Modinfo.{options_asked, shows_each}
use Rattle.command_modinfo.proofs.SourceSteps.{shows_from}
use Rattle.command_modinfo.proofs.course.show_asked.Goals as goal

pub returns-in_err-source : goal.returns-in_err-source
returns-in_err-source g c = λ err.
    let p = err_from_is_err_and c.from_residual.result c.from_residual.ensures.1 in
    exits _ _ (shows_from (options_asked c.args.asked) c.args.asked.words) p.1 p.2
    (c.in_err-source.ensures (g.O.Out.seen c.args.out.now) err)

pub returns : goal.returns
returns g c = λ err.
    next (shows_from (options_asked c.args.asked) c.args.asked.words)
    (c.in_ok-source.ensures (g.O.Out.seen c.args.out.now) err)
    (subst (λ words. Follows (λ (x : ⊤). x)
    (shows_each c.in_ok-source.source (options_asked c.args.asked) words)
    (world (g.F.Reads.seen c.read_source.new.files) (g.O.Out.seen c.args.out.now) err)
    (world (g.F.Reads.seen c.show_each.new.files) (g.O.Out.seen c.show_each.new.out) err)
    c.show_each.result)
    c.as_slice.ensures (c.show_each.ensures err))
