use Rattle.km_course.specs.World.{world}
use Rattle.km_course.proofs.Carried.{carried}
use Rattle.command_builtin_alias.specs.BuiltinAlias.{builtin_alias_course}
use Rattle.kmod_cli.proofs.program.builtin_alias.Goals as goal

pub returns : goal.returns
returns g c =
    carried (builtin_alias_course c.args.words.now)
    (world (g.F.Reads.seen c.args.files.now) (g.O.Out.seen c.args.out.now)
    (g.E.Out.seen c.args.err.now))
    (world (g.F.Reads.seen c.builtin_alias-outcome.new.files)
    (g.O.Out.seen c.builtin_alias-outcome.new.out) (g.E.Out.seen c.args.err.now))
    (g.E.Out.seen c.conclude.new.err) c.builtin_alias-outcome.result c.conclude.result (
      record { out = g.met.O.Out.within c.args.out.now; err = g.met.E.Out.within c.args.err.now },
      record {
        out = g.met.O.Out.within c.builtin_alias-outcome.new.out;
        err = g.met.E.Out.within c.conclude.new.err;
      },
    )
    (c.builtin_alias-outcome.ensures (g.E.Out.seen c.args.err.now))
    c.conclude.ensures
