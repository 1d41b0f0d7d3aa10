use Rattle.std.proofs.Common.{[], length, ap, ◌∙◌}
use Rattle.plan_sources.specs.Planner.{sources_of}
use Rattle.plan_sources.specs.Softdeps.{PlaceLists, kept_places}
use Rattle.plan_sources.proofs.SoftSteps.{knows-none}
use Rattle.plan_sources.proofs.soft_table.SoftTable.new.Goals as goal

pub invariant_of-result : goal.invariant_of-result
invariant_of-result c = (
  knows-none (sources_of c.args.planner.now) c.in_ok-known.known.items c.len.result
      c.in_ok-known.ensures (c.len.ensures ∙ ap length c.modules.ensures),
  ([], λ name. ap (λ (es : PlaceLists). kept_places es name) c.with_hasher-lists.ensures.empty),
)
