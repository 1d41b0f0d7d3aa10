use Rattle.std.proofs.Common.{◌<◌, None, length, sym, ◌∙◌, arith}
use Rattle.std.proofs.lemmas.List.{get_or_default}
use Rattle.plan_sources.specs.Planner.{sources_of}
use Rattle.plan_sources.proofs.SoftSteps.{knows-more}
use Rattle.plan_sources.proofs.softdeps.is_loadable.Goals as goal

pub returns-in-Some-clause-answer : goal.returns-in-Some-clause-answer
returns-in-Some-clause-answer c =
    let l : c.args.place < length c.args.known.now.items
    = omega (arith, c.requires.known.long, c.requires.place) in
    c.requires.known.right c.args.place c.in-Some.loadable
    (get_or_default c.args.known.now.items c.args.place None c.index.result.now l
    ∙ sym c.index.ensures ∙ c.in-Some.is)

pub returns-in_ok-loadable-in-None-clause-known : goal.returns-in_ok-loadable-in-None-clause-known
returns-in_ok-loadable-in-None-clause-known c =
    let l : c.args.place < length c.args.known.now.items
    = omega (arith, c.requires.known.long, c.requires.place) in
    knows-more (sources_of c.args.planner.now) c.args.known.now.items c.args.place
    c.in_ok-loadable-in-None.loadable c.requires.known l c.in_ok-loadable-in-None.ensures
