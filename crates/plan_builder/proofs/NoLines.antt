-- Where modules.unmet has no line, only a cycle keeps what was found from having a plan.
use Rattle.std.proofs.Common.{◌≡◌, ℕ, Bool, List, [], ◌∷◌, length, map, Option, Some, None, refl}
use Rattle.std.proofs.Common.{arith}
use Rattle.km_names.specs.First.{first}
use Rattle.symbol_binding.specs.declared.unbound.Unbound.{Unbound}
use Rattle.name_lookup.specs.declared.found.Found.{Found}
use Rattle.relation_order.specs.Cycle.{cycle}
use Rattle.plan_order.specs.Lists.{among}
use Rattle.unmet_file.specs.declared.kind.LineKind.TheVariants as kinds
use Rattle.dependency_lines.specs.Modules.{name_at}
use Rattle.plan_sources.specs.Sources.{Sources, modules}
use Rattle.planned_modules.specs.Needs.{before}
use Rattle.planned_modules.specs.Members.{planned}
use Rattle.plan_builder.specs.Obstacles.{PlanObstacle, is_path_of, stands, first_line}
use Rattle.plan_builder.specs.Obstacles.{cycle_obstacle, plan_tests}

none-of : (in_plan there : List ℕ → Bool) (lines : List Unbound) (o : Option PlanObstacle)
    → length lines ≡ 0
    → first (first_line kinds.Missing in_plan there lines
    ∷ first_line kinds.Gpl in_plan there lines
    ∷ first_line kinds.Version in_plan there lines
    ∷ first_line kinds.Namespace in_plan there lines
    ∷ o
    ∷ first_line kinds.Double in_plan there lines
    ∷ []) ≡ o
none-of in_plan there [] None none = refl
none-of in_plan there [] (Some o) none = refl
none-of in_plan there (line ∷ lines) o none = absurd (omega (arith, none))

pub no-lines : (s : Sources) (founds : List Found) → length s.unmet ≡ 0
    → first (plan_tests s founds)
    ≡ cycle_obstacle (map (name_at (modules s)) (cycle (among (before s)) (planned s founds)))
no-lines s founds none =
    none-of (is_path_of (modules s) (planned s founds)) (stands s) s.unmet
    (cycle_obstacle (map (name_at (modules s)) (cycle (among (before s)) (planned s founds))))
    none
