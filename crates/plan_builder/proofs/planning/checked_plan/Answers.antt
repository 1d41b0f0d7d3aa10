use Rattle.std.proofs.Common.{ap, ◌∙◌}
use Rattle.relation_order.specs.Sets.{marked}
use Rattle.plan_sources.specs.Sources.{modules}
use Rattle.plan_builder.specs.Obstacles.{is_path_of}
use Rattle.plan_sources.specs.Planner.{sources_of}
use Rattle.plan_builder.proofs.planning.checked_plan.Goals as goal

pub checked_order-requires-clause-planned : goal.checked_order-requires-clause-planned
checked_order-requires-clause-planned c path =
    c.in_ok-paths.ensures.planned path
    ∙ ap (λ ps. is_path_of (modules (sources_of c.args.planner.now)) ps path)
    (ap marked c.deref.ensures.value ∙ c.in_ok-marks.ensures.marks)
