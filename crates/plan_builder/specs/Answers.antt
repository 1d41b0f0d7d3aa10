-- What `plan` learns on its way.
-- It belongs to the code, but for `line_obstacle` and `name_obstacle`: the public conversions into
-- `Obstacle` cite them.
use Rattle.std.specs.Prelude.{◌≡◌, ◌<◌, ℕ, Bool, List, [], ◌∷◌, map, All, Option}
use Rattle.index_format.specs.Listing.{KeyValue}
use Rattle.symbol_binding.specs.declared.unbound.Unbound.{Unbound}
use Rattle.plan_order.specs.declared.plan.PlanOrCycle.{PlanOrCycle}
use Rattle.plan_order.specs.declared.plan.PlanOrCycle.TheVariants as answers
use Rattle.unmet_file.specs.declared.kind.LineKind.TheVariants as kinds
use Rattle.dependency_lines.specs.declared.fault.LineFault.{LineFault}
use Rattle.dependency_lines.specs.declared.fault.LineFault.TheVariants as faults
use Rattle.dependency_lines.specs.Modules.{name_at}
use Rattle.planned_modules.specs.declared.fault.ResolveFault.{ResolveFault}
use Rattle.planned_modules.specs.declared.fault.ResolveFault.TheVariants as unresolved
use Rattle.plan_builder.specs.declared.obstacle.Obstacle.{Obstacle}
use Rattle.plan_builder.specs.declared.obstacle.Obstacle.TheVariants.{BadDepLine, Cycle}
use Rattle.plan_builder.specs.declared.obstacle.Obstacle.TheVariants as obstacles
use Rattle.plan_builder.specs.Obstacles.{PlanObstacle, first_line}

-- What a fault of dependency lines keeps a request from.
abbrev pub line_obstacle : LineFault → Obstacle
line_obstacle (faults.BadLine name) = BadDepLine name
line_obstacle faults.Memory = obstacles.Memory

-- What a fault of names keeps a request from.
abbrev pub name_obstacle : ResolveFault → Obstacle
name_obstacle (unresolved.NotFound name) = obstacles.NotFound name
name_obstacle unresolved.Memory = obstacles.Memory

-- The tests of the lines on needs.
abbrev pub need_tests : (List ℕ → Bool) → (List ℕ → Bool) → List Unbound
    → List (Option PlanObstacle)
need_tests in_plan there unmet =
    first_line kinds.Missing in_plan there unmet
    ∷ first_line kinds.Gpl in_plan there unmet
    ∷ first_line kinds.Version in_plan there unmet
    ∷ first_line kinds.Namespace in_plan there unmet
    ∷ []

-- A cycle is of modules below a number.
abbrev pub ShortCycle : ℕ → PlanOrCycle → Type 0
ShortCycle n (answers.Plan order) = Unit {0}
ShortCycle n (answers.Cycle found) = All (λ y. y < n) found.items

-- The answer is a cycle, and the obstacle has its names.
abbrev pub IsCycleOf : List KeyValue → PlanOrCycle → Obstacle → Type 0
IsCycleOf ms (answers.Plan order) o = ⊥
IsCycleOf ms (answers.Cycle found) o = o ≡ Cycle (map (name_at ms) found.items)
