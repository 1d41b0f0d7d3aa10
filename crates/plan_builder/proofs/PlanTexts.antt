-- The texts of obstacles, and requests that have none.
use Rattle.std.proofs.Common.{◌≡◌, None, refl}
use Rattle.symbol_binding.specs.declared.unbound.Unbound.TheVariants as lines
use Rattle.plan_builder.specs.declared.request.Request.{Request}
use Rattle.plan_sources.specs.Sources.{Sources}
use Rattle.plan_builder.specs.Obstacles.{PlanObstacle, bad_dep_line, name_not_found, unbound_line}
use Rattle.plan_builder.specs.Obstacles.{plan_cycle, as_obstacle, obstacle_of}
use Rattle.plan_builder.specs.Text.{first_obstacle_text, obstacle_text, plan_text}
use Rattle.dependency_lines.proofs.Finds.{option-none}

-- the text of what the code answers is that of the obstacle
pub same-text : (o : PlanObstacle) → obstacle_text (as_obstacle o) ≡ plan_text o
same-text (bad_dep_line name) = refl
same-text (name_not_found name) = refl
same-text (unbound_line (lines.Missing path symbol)) = refl
same-text (unbound_line (lines.Gpl path symbol by)) = refl
same-text (unbound_line (lines.Version path symbol by)) = refl
same-text (unbound_line (lines.Namespace path symbol by)) = refl
same-text (unbound_line (lines.Double symbol a b)) = refl
same-text (plan_cycle names) = refl

-- a request whose first obstacle has no text has none
pub no-obstacle : (s : Sources) (request : Request) → first_obstacle_text s request ≡ None
    → obstacle_of s request ≡ None
no-obstacle s request is = option-none plan_text (obstacle_of s request) is
