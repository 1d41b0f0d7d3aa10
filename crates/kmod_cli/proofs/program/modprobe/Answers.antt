use Rattle.km_course.specs.World.{world}
use Rattle.km_course.specs.Carries.{Carries}
use Rattle.km_course.proofs.Carried.{carried}
use Rattle.command_modprobe.specs.Modprobe.{modprobe_course}
use Rattle.kmod_cli.proofs.HeadlineLaw.{headline}
use Rattle.kmod_cli.proofs.PlansLaw.{plans}
use Rattle.kmod_cli.proofs.TakesBackLaw.{takes-back}
use Rattle.kmod_cli.proofs.program.modprobe.Goals as goal

pub returns : goal.returns
returns g c =
    let old
    = world (g.F.Reads.seen c.args.files.now) (g.O.Out.seen c.args.out.now)
    (g.E.Out.seen c.args.err.now) in
    let new
    = world (g.F.Reads.seen c.modprobe-outcome.new.files)
    (g.O.Out.seen c.modprobe-outcome.new.out) (g.E.Out.seen c.conclude.new.err) in
    let carries : Carries (modprobe_course c.args.words.now) old new c.conclude.result =
    carried (modprobe_course c.args.words.now) old
    (world (g.F.Reads.seen c.modprobe-outcome.new.files) (g.O.Out.seen c.modprobe-outcome.new.out)
    (g.E.Out.seen c.args.err.now))
    (g.E.Out.seen c.conclude.new.err) c.modprobe-outcome.result c.conclude.result (
      record { out = g.met.O.Out.within c.args.out.now; err = g.met.E.Out.within c.args.err.now },
      record {
        out = g.met.O.Out.within c.modprobe-outcome.new.out;
        err = g.met.E.Out.within c.conclude.new.err;
      },
    )
    (c.modprobe-outcome.ensures (g.E.Out.seen c.args.err.now))
    c.conclude.ensures in
    record {
      carries = carries;
      headline = headline c.args.words.now old new c.conclude.result carries;
      plans = plans c.args.words.now old new c.conclude.result carries;
      takes_back = takes-back c.args.words.now old new c.conclude.result carries;
    }
