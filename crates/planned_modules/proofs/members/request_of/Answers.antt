use Rattle.std.proofs.Common.{◌<◌, length, sym, ◌∙◌, subst}
use Rattle.std.specs.Prelude.{All}
use Rattle.dependency_lines.specs.Modules.{places_of}
use Rattle.plan_sources.specs.Sources.{modules}
use Rattle.plan_sources.specs.Planner.{sources_of}
use Rattle.plan_sources.proofs.Inside.{places-inside}
use Rattle.planned_modules.proofs.members.request_of.Goals as goal

pub returns-clause-inside : goal.returns-clause-inside
returns-clause-inside c =
    let made
    = c.in_ok-places.ensures ∙ (λ i. places_of (c.modules.ensures i) (c.as_slice.ensures i)) in
    subst (All (λ y. y < length (modules (sources_of c.args.planner.now)))) (sym made)
    (places-inside (modules (sources_of c.args.planner.now)) c.args.names.now)
