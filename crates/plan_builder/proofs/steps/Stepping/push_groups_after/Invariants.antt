use Rattle.std.proofs.Common.{◌≡◌, ◌<◌, ◌≤◌, ◌++◌, drop, length}
use Rattle.std.specs.Prelude.{slice_index}
use Rattle.plan_sources.specs.Planner.{sources_of}
use Rattle.plan_builder.specs.Ends.{steps_by}
use Rattle.plan_builder.proofs.steps.Stepping.push_groups_after.Given as goal

abbrev pub invariant-loop-k : goal.invariant-loop-k
invariant-loop-k l =
    record {
      steps : l.steps
          ++ steps_by (sources_of l.self.planner.now) l.self.request.now l.earlier l.start
          (drop l.k l.founds) (drop l.k l.plan.ends.items) l.plan.order.items
          ≡ l.fn.steps
          ++ steps_by (sources_of l.self.planner.now) l.self.request.now l.fn.earlier 0 l.founds
          l.plan.ends.items l.plan.order.items;
      within : l.start ≤ length l.plan.order.items;
      before : l.k < length l.plan.ends.items → l.start ≤ slice_index l.plan.ends.items l.k;
    }
