use Rattle.km_course.specs.World.{world}
use Rattle.km_course.specs.Carries.{Carries}
use Rattle.km_course.proofs.Carried.{carried}
use Rattle.command_depmod.specs.Depmod.{depmod_course}
use Rattle.kmod_cli.specs.Indexes.{Indexes}
use Rattle.kmod_cli.proofs.ExtraLaw.{extra-law}
use Rattle.kmod_cli.proofs.IndexesLaw.{indexes-law}
use Rattle.kmod_cli.proofs.program.depmod.Goals as goal

pub returns : goal.returns
returns g c =
    let old
    = world (g.F.Reads.seen c.args.files.now) (g.O.Out.seen c.args.out.now)
    (g.E.Out.seen c.args.err.now) in
    let new
    = world (g.F.Reads.seen c.depmod-outcome.new.files) (g.O.Out.seen c.depmod-outcome.new.out)
    (g.E.Out.seen c.conclude.new.err) in
    let carries : Carries (depmod_course c.args.words.now) old new c.conclude.result =
    carried (depmod_course c.args.words.now) old
    (world (g.F.Reads.seen c.depmod-outcome.new.files) (g.O.Out.seen c.depmod-outcome.new.out)
    (g.E.Out.seen c.depmod-outcome.new.err))
    (g.E.Out.seen c.conclude.new.err) c.depmod-outcome.result c.conclude.result (
      record { out = g.met.O.Out.within c.args.out.now; err = g.met.E.Out.within c.args.err.now },
      record {
        out = g.met.O.Out.within c.depmod-outcome.new.out;
        err = g.met.E.Out.within c.conclude.new.err;
      },
    )
    c.depmod-outcome.ensures
    c.conclude.ensures in
    let indexes : Indexes c.args.words.now old new c.conclude.result
    = indexes-law c.args.words.now old new c.conclude.result carries in
    record {
      carries = carries;
      indexes = indexes;
      extra = extra-law c.args.words.now old new c.conclude.result indexes;
    }
