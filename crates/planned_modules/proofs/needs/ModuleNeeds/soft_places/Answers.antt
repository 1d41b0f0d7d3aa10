use Rattle.std.proofs.Common.{◌≡◌, ◌<◌, ℕ, List, length, ap, sym, subst, ◌∙◌}
use Rattle.std.specs.Prelude.{IfOk}
use Rattle.std.specs.List.{flat_map}
use Rattle.index_format.specs.Listing.{KeyValue}
use Rattle.modprobe_conf.specs.declared.rule.Rule.{Rule}
use Rattle.dependency_lines.specs.Modules.{name_at}
use Rattle.plan_sources.specs.Sources.{modules, soft_places}
use Rattle.plan_sources.specs.Planner.{Held, sources_of}
use Rattle.plan_sources.specs.Kept.{texts}
use Rattle.plan_sources.specs.Softdeps.{once}
use Rattle.planned_modules.specs.declared.needs.Side.{Side}
use Rattle.planned_modules.specs.Kept.{names_on}
use Rattle.planned_modules.proofs.needs.ModuleNeeds.soft_places.Goals as goal

-- the names that were gathered are those of the rules
names-are : (side : Side) (place : ℕ) (h p : Held) (ms : List KeyValue) (own : List ℕ)
    (rules : List Rule) (names : List (List ℕ))
    → names ≡ flat_map (names_on side own) rules → own ≡ name_at ms place
    → ms ≡ modules (sources_of p) → rules ≡ p.rules → p ≡ h
    → names ≡ flat_map (names_on side (name_at (modules (sources_of h)) place)) h.rules
names-are side place h p ms own rules names gathered named of_sources of_rules same =
    gathered
    ∙ (λ i. flat_map (names_on side (named i)) (of_rules i))
    ∙ (λ i. flat_map (names_on side (name_at (of_sources i) place)) p.rules)
    ∙ ap (λ (h : Held). flat_map (names_on side (name_at (modules (sources_of h)) place)) h.rules)
    same

pub name-name-requires : goal.name-name-requires
name-name-requires c =
    subst (λ (ms : List KeyValue). c.args.place < length ms)
    (sym (c.modules.ensures
    ∙ ap (λ h. modules (sources_of h)) (c.planner-planner.ensures ∙ c.self.view_is)))
    c.requires

pub returns-clause-places : goal.returns-clause-places
returns-clause-places c =
    let h = c.self.inside.soft in
    let side = c.args.side in
    let place = c.args.place in
    subst (λ places. IfOk c.places.result (λ v. v.items ≡ places))
    (ap (λ names. once (soft_places (sources_of h) place names))
    (names-are side place h c.planner-planner.result.now c.modules.result.now
    c.name-name.result.now c.rules.result.now (texts c.deref.result.now)
    (ap texts c.deref.ensures.value ∙ c.in_ok-names.ensures) c.name-name.ensures
    c.modules.ensures c.rules.ensures c.planner-planner.ensures)
    ∙ ap (λ (h : Held). once
    (soft_places (sources_of h) place
    (flat_map (names_on side (name_at (modules (sources_of h)) place)) h.rules)))
    c.self.view_is)
    c.places.ensures.places
