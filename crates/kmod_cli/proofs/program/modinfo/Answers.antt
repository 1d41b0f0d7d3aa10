use Rattle.km_course.specs.World.{world}
use Rattle.km_course.proofs.Carried.{carried}
use Rattle.command_modinfo.specs.Modinfo.{modinfo_course}
use Rattle.kmod_cli.proofs.program.modinfo.Goals as goal

pub returns : goal.returns
returns g c =
    carried (modinfo_course c.args.words.now)
    (world (g.F.Reads.seen c.args.files.now) (g.O.Out.seen c.args.out.now)
    (g.E.Out.seen c.args.err.now))
    (world (g.F.Reads.seen c.modinfo-outcome.new.files) (g.O.Out.seen c.modinfo-outcome.new.out)
    (g.E.Out.seen c.args.err.now))
    (g.E.Out.seen c.conclude.new.err) c.modinfo-outcome.result c.conclude.result (
      record { out = g.met.O.Out.within c.args.out.now; err = g.met.E.Out.within c.args.err.now },
      record {
        out = g.met.O.Out.within c.modinfo-outcome.new.out;
        err = g.met.E.Out.within c.conclude.new.err;
      },
    )
    (c.modinfo-outcome.ensures (g.E.Out.seen c.args.err.now))
    c.conclude.ensures
