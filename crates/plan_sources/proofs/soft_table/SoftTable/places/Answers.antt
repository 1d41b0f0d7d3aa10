use Rattle.std.proofs.Common.{◌≡◌, ◌++◌, ap, subst, ◌∙◌}
use Rattle.std.specs.Prelude.{IfOk}
use Rattle.plan_sources.specs.Sources.{soft_places}
use Rattle.plan_sources.specs.Planner.{sources_of}
use Rattle.plan_sources.specs.Kept.{texts}
use Rattle.plan_sources.specs.Softdeps.{once}
use Rattle.plan_sources.proofs.SoftSteps.{soft-added}
use Rattle.plan_sources.proofs.soft_table.SoftTable.places.Goals as goal

pub invariant_of-self-2 : goal.invariant_of-self-2
invariant_of-self-2 c =
    let held = c.self.invariant.1 in (
      c.in_ok-add_names.ensures.known,
      (held.0 ++ texts c.args.names.now, c.in_ok-add_names.ensures.lists held.0 held.1),
    )

pub returns-clause-places : goal.returns-clause-places
returns-clause-places c =
    let s = sources_of c.self.inside.planner.now in
    let held = c.self.invariant.1 in
    let names = texts c.args.names.now in
    subst (λ places. IfOk c.find_named.result (λ v. v.items ≡ places))
    (ap once
    (soft-added s c.add_names.new.lists.entries held.0 names
    (c.in_ok-add_names.ensures.lists held.0 held.1) c.args.place
    ∙ ap (λ h. soft_places (sources_of h) c.args.place names) c.self.view_is))
    c.find_named.ensures
