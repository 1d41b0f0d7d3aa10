-- The text of an obstacle, as it is in a line on standard error. For a line of modules.unmet it is
-- the line.
use Rattle.std.specs.Prelude.{ℕ, List, ◌++◌, codes, Option, option_map}
use Rattle.km_names.specs.Texts.{cycle_text, not_found_text}
use Rattle.symbol_binding.specs.declared.unbound.Unbound.TheVariants as lines
use Rattle.unmet_file.specs.Line.{line_text}
use Rattle.plan_builder.specs.declared.obstacle.Obstacle.{Obstacle}
use Rattle.plan_builder.specs.declared.obstacle.Obstacle.TheVariants as obstacles
use Rattle.plan_builder.specs.declared.request.Request.{Request}
use Rattle.plan_sources.specs.Sources.{Sources}
use Rattle.plan_builder.specs.Obstacles.{PlanObstacle, bad_dep_line, name_not_found, unbound_line}
use Rattle.plan_builder.specs.Obstacles.{plan_cycle, obstacle_of}

-- The text of an obstacle to a plan.
abbrev pub plan_text : PlanObstacle → List ℕ
plan_text (bad_dep_line name) = codes "bad dependency line " ++ name
plan_text (name_not_found name) = not_found_text name
plan_text (unbound_line line) = line_text line
plan_text (plan_cycle names) = cycle_text names

-- The text of the first obstacle of a request.
abbrev pub first_obstacle_text : Sources → Request → Option (List ℕ)
first_obstacle_text s request = option_map plan_text (obstacle_of s request)

-- The text of what the code answers.
abbrev pub obstacle_text : Obstacle → List ℕ
obstacle_text (obstacles.BadDepLine name) = plan_text (bad_dep_line name)
obstacle_text (obstacles.NotFound name) = plan_text (name_not_found name)
obstacle_text (obstacles.Missing path symbol) = line_text (lines.Missing path symbol)
obstacle_text (obstacles.Gpl path symbol by) = line_text (lines.Gpl path symbol by)
obstacle_text (obstacles.Version path symbol by) = line_text (lines.Version path symbol by)
obstacle_text (obstacles.Namespace path symbol by) = line_text (lines.Namespace path symbol by)
obstacle_text (obstacles.Cycle names) = plan_text (plan_cycle names)
obstacle_text (obstacles.Double symbol a b) = line_text (lines.Double symbol a b)
obstacle_text obstacles.Memory = codes "out of memory"
