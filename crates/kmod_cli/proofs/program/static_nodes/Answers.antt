use Rattle.km_course.specs.World.{world}
use Rattle.km_course.proofs.Carried.{carried}
use Rattle.command_static_nodes.specs.StaticNodes.{static_nodes_course}
use Rattle.kmod_cli.proofs.program.static_nodes.Goals as goal

pub returns : goal.returns
returns g c =
    carried (static_nodes_course c.args.words.now)
    (world (g.F.Reads.seen c.args.files.now) (g.O.Out.seen c.args.out.now)
    (g.E.Out.seen c.args.err.now))
    (world (g.F.Reads.seen c.static_nodes-outcome.new.files)
    (g.O.Out.seen c.static_nodes-outcome.new.out) (g.E.Out.seen c.args.err.now))
    (g.E.Out.seen c.conclude.new.err) c.static_nodes-outcome.result c.conclude.result (
      record { out = g.met.O.Out.within c.args.out.now; err = g.met.E.Out.within c.args.err.now },
      record {
        out = g.met.O.Out.within c.static_nodes-outcome.new.out;
        err = g.met.E.Out.within c.conclude.new.err;
      },
    )
    (c.static_nodes-outcome.ensures (g.E.Out.seen c.args.err.now))
    c.conclude.ensures
