use Rattle.std.proofs.Common.{◌≡◌, ◌<◌, length, rules, sym, ◌∙◌, subst}
use Rattle.std.specs.Prelude.{All}
use Rattle.dependency_lines.specs.Modules.{places_of}
use Rattle.plan_sources.specs.Sources.{modules, found_names}
use Rattle.plan_sources.specs.Planner.{sources_of}
use Rattle.plan_sources.proofs.Inside.{places-inside}
use Rattle.plan_sources.proofs.Loadable.{all-loadable}
use Rattle.plan_sources.proofs.softdeps.loadable_places.Goals as goal

pub only_loadable-requires-clause-places : goal.only_loadable-requires-clause-places
only_loadable-requires-clause-places c =
    let names = c.in_ok-found.found.names in
    let made
    = c.deref.ensures.value ∙ c.in_ok-places.ensures
    ∙ (λ j. places_of (c.modules.ensures j) (c.as_slice.ensures j)) in
    subst (All (λ y. y < length (modules (sources_of c.args.planner.now)))) (sym made)
    (places-inside (modules (sources_of c.args.planner.now)) names)

pub returns-then-is_empty-clause-places : goal.returns-then-is_empty-clause-places
returns-then-is_empty-clause-places c =
    let s = sources_of c.args.planner.now in
    let none : length (sources_of c.args.planner.now).unmet ≡ 0 = search rules in
    c.in_ok-places.ensures
    ∙ (λ j. places_of (c.modules.ensures j) (c.as_slice.ensures j))
    ∙ (λ j. places_of (modules s) (c.in_ok-found.ensures j).names)
    ∙ sym (all-loadable (modules s) s.unmet (places_of (modules s) (found_names s c.args.name.now))
    none)
