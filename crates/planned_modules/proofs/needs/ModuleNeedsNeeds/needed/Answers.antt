use Rattle.std.proofs.Common.{◌≡◌, ◌<◌, ℕ, List, ◌++◌, length, sym, ap, ◌∙◌, subst}
use Rattle.std.specs.Prelude.{All}
use Rattle.std.specs.List.{flat_map}
use Rattle.dependency_lines.specs.Modules.{needed_names, line_at, name_at, line_places}
use Rattle.plan_sources.specs.Sources.{modules}
use Rattle.plan_sources.specs.Planner.{Held, sources_of}
use Rattle.plan_sources.proofs.Inside.{both-once, soft-once}
use Rattle.planned_modules.specs.Needs.{names_before, names_after}
use Rattle.planned_modules.specs.Kept.{before_once, after_once}
use Rattle.planned_modules.proofs.needs.ModuleNeedsNeeds.needed.Goals as goal

-- what comes after is asked for when the first call was made
after-is : (place : ℕ) (first old : Held) (found : List ℕ)
    → found ≡ after_once (sources_of first) place → first ≡ old
    → found ≡ after_once (sources_of old) place
after-is place first old found is same =
    is ∙ ap (λ (h : Held). after_once (sources_of h) place) same

pub returns-clause-after : goal.returns-clause-after
returns-clause-after c =
    after-is c.args.place c.soft_places.new.self c.args.self.now _ c.in_ok-after.ensures.places
    c.in_ok-soft.ensures.stays

pub returns-clause-before_inside : goal.returns-clause-before_inside
returns-clause-before_inside c =
    let s = sources_of c.args.self.now in
    let line
    = c.in_ok-before.ensures
    ∙ ap (λ h. line_places (modules (sources_of h)) c.args.place)
    (c.planner.ensures ∙ c.self.view_is) in
    let made
    = c.in_ok-extend_from_slice.ensures.items
    ∙ (λ i. line i ++ (c.deref.ensures.value ∙ c.in_ok-soft.ensures.places) i) in
    subst (All (λ y. y < length (modules (sources_of c.args.self.now)))) (sym made)
    (both-once s c.args.place (needed_names (line_at (modules s) c.args.place))
    (flat_map (names_before (name_at (modules s) c.args.place)) s.rules))

pub returns-clause-after_inside : goal.returns-clause-after_inside
returns-clause-after_inside c =
    let s = sources_of c.args.self.now in
    subst (All (λ y. y < length (modules (sources_of c.args.self.now))))
    (sym (after-is c.args.place c.soft_places.new.self c.args.self.now _
    c.in_ok-after.ensures.places c.in_ok-soft.ensures.stays))
    (soft-once s c.args.place (flat_map (names_after (name_at (modules s) c.args.place)) s.rules))

pub returns-clause-count_stays : goal.returns-clause-count_stays
returns-clause-count_stays c =
    ap (λ (h : Held). length (modules (sources_of h)))
    (c.in_ok-after.ensures.stays ∙ c.in_ok-soft.ensures.stays)

pub returns-clause-before_stays : goal.returns-clause-before_stays
returns-clause-before_stays c =
    ap (λ (h : Held). before_once (sources_of h))
    (c.in_ok-after.ensures.stays ∙ c.in_ok-soft.ensures.stays)

pub returns-clause-after_stays : goal.returns-clause-after_stays
returns-clause-after_stays c =
    ap (λ (h : Held). after_once (sources_of h))
    (c.in_ok-after.ensures.stays ∙ c.in_ok-soft.ensures.stays)
