use Rattle.std.proofs.Common.{refl, sym, subst, ◌∙◌, ap}
use Rattle.std.specs.Prelude.{Some, Err, ⊤}
use Rattle.km_course.specs.World.{world}
use Rattle.km_course.specs.Course.{ends}
use Rattle.km_course.specs.Course.Outcome.{end}
use Rattle.km_course.specs.Follows.{Answers}
use Rattle.km_course.specs.Carries.{Carries}
use Rattle.km_course.specs.declared.end.End.TheVariants.{NotUnderstood}
use Rattle.km_course.proofs.Steps.{answered}
use Rattle.km_course.proofs.Carried.{carried}
use Rattle.kmod_cli.specs.Program.{course_named}
use Rattle.kmod_cli.proofs.program.command.Goals as goal

pub returns-in-Depmod : goal.returns-in-Depmod
returns-in-Depmod g c =
    subst (λ named. Carries (course_named named c.args.words.now)
    (world (g.F.Reads.seen c.args.files.now) (g.O.Out.seen c.args.out.now)
    (g.E.Out.seen c.args.err.now))
    (world (g.F.Reads.seen c.depmod.new.files) (g.O.Out.seen c.depmod.new.out)
    (g.E.Out.seen c.depmod.new.err)) c.depmod.result)
    (sym (c.in-Some.is ∙ ap Some c.in-Depmod.is))
    c.depmod.ensures.carries

pub returns-in-Modinfo : goal.returns-in-Modinfo
returns-in-Modinfo g c =
    subst (λ named. Carries (course_named named c.args.words.now)
    (world (g.F.Reads.seen c.args.files.now) (g.O.Out.seen c.args.out.now)
    (g.E.Out.seen c.args.err.now))
    (world (g.F.Reads.seen c.modinfo.new.files) (g.O.Out.seen c.modinfo.new.out)
    (g.E.Out.seen c.modinfo.new.err)) c.modinfo.result)
    (sym (c.in-Some.is ∙ ap Some c.in-Modinfo.is))
    c.modinfo.ensures

pub returns-in-Modprobe : goal.returns-in-Modprobe
returns-in-Modprobe g c =
    subst (λ named. Carries (course_named named c.args.words.now)
    (world (g.F.Reads.seen c.args.files.now) (g.O.Out.seen c.args.out.now)
    (g.E.Out.seen c.args.err.now))
    (world (g.F.Reads.seen c.modprobe.new.files) (g.O.Out.seen c.modprobe.new.out)
    (g.E.Out.seen c.modprobe.new.err)) c.modprobe.result)
    (sym (c.in-Some.is ∙ ap Some c.in-Modprobe.is))
    c.modprobe.ensures.carries

pub returns-in-Trial : goal.returns-in-Trial
returns-in-Trial g c =
    subst (λ named. Carries (course_named named c.args.words.now)
    (world (g.F.Reads.seen c.args.files.now) (g.O.Out.seen c.args.out.now)
    (g.E.Out.seen c.args.err.now))
    (world (g.F.Reads.seen c.args.files.now) (g.O.Out.seen c.trial.new.out)
    (g.E.Out.seen c.trial.new.err)) c.trial.result)
    (sym (c.in-Some.is ∙ ap Some c.in-Trial.is))
    (c.trial.ensures (g.F.Reads.seen c.args.files.now))

pub returns-in-StaticNodes : goal.returns-in-StaticNodes
returns-in-StaticNodes g c =
    subst (λ named. Carries (course_named named c.args.words.now)
    (world (g.F.Reads.seen c.args.files.now) (g.O.Out.seen c.args.out.now)
    (g.E.Out.seen c.args.err.now))
    (world (g.F.Reads.seen c.static_nodes.new.files) (g.O.Out.seen c.static_nodes.new.out)
    (g.E.Out.seen c.static_nodes.new.err)) c.static_nodes.result)
    (sym (c.in-Some.is ∙ ap Some c.in-StaticNodes.is))
    c.static_nodes.ensures

pub returns-in-BuiltinAlias : goal.returns-in-BuiltinAlias
returns-in-BuiltinAlias g c =
    subst (λ named. Carries (course_named named c.args.words.now)
    (world (g.F.Reads.seen c.args.files.now) (g.O.Out.seen c.args.out.now)
    (g.E.Out.seen c.args.err.now))
    (world (g.F.Reads.seen c.builtin_alias.new.files) (g.O.Out.seen c.builtin_alias.new.out)
    (g.E.Out.seen c.builtin_alias.new.err)) c.builtin_alias.result)
    (sym (c.in-Some.is ∙ ap Some c.in-BuiltinAlias.is))
    c.builtin_alias.ensures

pub returns-in-None : goal.returns-in-None
returns-in-None g c =
    let old
    = world (g.F.Reads.seen c.args.files.now) (g.O.Out.seen c.args.out.now)
    (g.E.Out.seen c.args.err.now) in
    subst (λ named. Carries (course_named named c.args.words.now) old
    (world (g.F.Reads.seen c.args.files.now) (g.O.Out.seen c.args.out.now)
    (g.E.Out.seen c.conclude.new.err)) c.conclude.result)
    (sym c.in-None.is)
    (carried (ends NotUnderstood) old old (g.E.Out.seen c.conclude.new.err) (Err c.from.result)
    c.conclude.result (
      record { out = g.met.O.Out.within c.args.out.now; err = g.met.E.Out.within c.args.err.now },
      record
          { out = g.met.O.Out.within c.args.out.now; err = g.met.E.Out.within c.conclude.new.err },
    )
    (answered (λ (x : ⊤). x) (end NotUnderstood) old (Err c.from.result)
    (subst (λ stop. Answers (λ (x : ⊤). x) (end NotUnderstood) (Err stop)) (sym c.from.ensures)
    refl))
    c.conclude.ensures)
