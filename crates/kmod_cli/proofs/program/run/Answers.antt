use Rattle.std.proofs.Common.{ℕ, ◌-◌, List, length, take, drop, sym, ap, subst, ◌∙◌}
use Rattle.std.proofs.lemmas.List.{take_rest}
use Rattle.km_course.specs.World.{world}
use Rattle.km_course.specs.Carries.{Carries}
use Rattle.kmod_cli.specs.Program.{command_named, course, course_named}
use Rattle.kmod_cli.proofs.CommandSteps.{no-words, name-first, depmod-extra, depmod-indexes}
use Rattle.kmod_cli.proofs.CommandSteps.{modprobe-loads, modprobe-plans}
use Rattle.kmod_cli.proofs.TakesBackLaw.{modprobe-takes_back}
use Rattle.kmod_cli.proofs.program.run.Goals as goal

pub returns-in-empty : goal.returns-in-empty
returns-in-empty g c =
    let words = c.args.words.now in
    let old
    = world (g.F.Reads.seen c.args.files.now) (g.O.Out.seen c.args.out.now)
    (g.E.Out.seen c.args.err.now) in
    let new
    = world (g.F.Reads.seen c.command.new.files) (g.O.Out.seen c.command.new.out)
    (g.E.Out.seen c.command.new.err) in
    let carries : Carries (course words) old new c.command.result =
    subst (λ all. Carries (course all) old new c.command.result)
    (sym (no-words words c.in-empty.len_below)) c.command.ensures in
    record {
      carries = carries;
      indexes = depmod-indexes words old new c.command.result carries;
      extra = depmod-extra words old new c.command.result carries;
      headline = modprobe-loads words old new c.command.result carries;
      plans = modprobe-plans words old new c.command.result carries;
      takes_back = modprobe-takes_back words old new c.command.result carries;
    }

pub returns-in-len1-up : goal.returns-in-len1-up
returns-in-len1-up g c =
    let words = c.args.words.now in
    let rest : List (List ℕ) = take (length words - 1) (drop 1 words) in
    let old
    = world (g.F.Reads.seen c.args.files.now) (g.O.Out.seen c.args.out.now)
    (g.E.Out.seen c.args.err.now) in
    let new
    = world (g.F.Reads.seen c.command-in-len1-up.new.files)
    (g.O.Out.seen c.command-in-len1-up.new.out) (g.E.Out.seen c.command-in-len1-up.new.err)
    in
    let carries : Carries (course words) old new c.command-in-len1-up.result =
    subst (λ all. Carries (course all) old new c.command-in-len1-up.result)
    (sym (name-first words rest c.name-item.result c.in-len1-up.len_at_least c.name-item.is
    (take_rest words 1)))
    (subst (λ named. Carries (course_named named rest) old new c.command-in-len1-up.result)
    (c.command_named-named.ensures ∙ ap command_named c.as_bytes.ensures)
    c.command-in-len1-up.ensures) in
    record {
      carries = carries;
      indexes = depmod-indexes words old new c.command-in-len1-up.result carries;
      extra = depmod-extra words old new c.command-in-len1-up.result carries;
      headline = modprobe-loads words old new c.command-in-len1-up.result carries;
      plans = modprobe-plans words old new c.command-in-len1-up.result carries;
      takes_back = modprobe-takes_back words old new c.command-in-len1-up.result carries;
    }
