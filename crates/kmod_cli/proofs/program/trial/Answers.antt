use Rattle.km_course.specs.World.{world}
use Rattle.km_course.proofs.Carried.{carried}
use Rattle.command_trial.specs.Trial.{trial_course}
use Rattle.kmod_cli.proofs.program.trial.Goals as goal

pub returns : goal.returns
returns g c = λ files.
    carried (trial_course c.args.words.now)
    (world files (g.O.Out.seen c.args.out.now) (g.E.Out.seen c.args.err.now))
    (world files (g.O.Out.seen c.trial-outcome.new.out) (g.E.Out.seen c.args.err.now))
    (g.E.Out.seen c.conclude.new.err) c.trial-outcome.result c.conclude.result (
      record { out = g.met.O.Out.within c.args.out.now; err = g.met.E.Out.within c.args.err.now },
      record {
        out = g.met.O.Out.within c.trial-outcome.new.out;
        err = g.met.E.Out.within c.conclude.new.err;
      },
    )
    (c.trial-outcome.ensures files (g.E.Out.seen c.args.err.now))
    c.conclude.ensures
