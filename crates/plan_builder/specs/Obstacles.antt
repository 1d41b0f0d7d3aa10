-- Why a request has no plan: the first test that fails. The first line of modules.unmet of each
-- kind counts, with lines on missing symbols first. modprobe(8).
use Rattle.std.specs.Prelude.{ℕ, ◌||◌, Bool, false, List, [], ◌∷◌, map, Option, Some, None}
use Rattle.std.specs.Prelude.{option_map}
use Rattle.std.specs.List.{find, list_any}
use Rattle.std.specs.Str.{bytes_eq}
use Rattle.km_names.specs.First.{first}
use Rattle.km_names.specs.AliasForm.{normal_or_itself}
use Rattle.index_format.specs.Listing.{KeyValue}
use Rattle.symbol_binding.specs.declared.unbound.Unbound.{Unbound}
use Rattle.symbol_binding.specs.declared.unbound.Unbound.TheVariants as lines
use Rattle.symbol_binding.specs.Unmet.{vmlinux, collides}
use Rattle.name_lookup.specs.declared.found.Found.{Found}
use Rattle.relation_order.specs.Cycle.{cycle}
use Rattle.plan_order.specs.Lists.{among}
use Rattle.unmet_file.specs.declared.kind.LineKind.{LineKind}
use Rattle.unmet_file.specs.declared.kind.LineKind.TheVariants as kinds
use Rattle.plan_builder.specs.declared.request.Request.{Request}
use Rattle.plan_builder.specs.declared.obstacle.Obstacle.{Obstacle}
use Rattle.plan_builder.specs.declared.obstacle.Obstacle.TheVariants as obstacles
use Rattle.dependency_lines.specs.Modules.{bad_name, name_at, path_at, places_of}
use Rattle.plan_sources.specs.Sources.{Sources, modules}
use Rattle.planned_modules.specs.Needs.{before}
use Rattle.planned_modules.specs.Members.{planned, is_unfound, is_unknown, all_names}
use Rattle.plan_builder.specs.Requested.{found_for}

-- What keeps a request from having a plan: the name of a bad dependency line, a name that isn't
-- found, a line of modules.unmet, or the names of modules in a cycle.
pub data PlanObstacle : Type 0 where
  bad_dep_line : List ℕ → PlanObstacle
  name_not_found : List ℕ → PlanObstacle
  unbound_line : Unbound → PlanObstacle
  plan_cycle : List (List ℕ) → PlanObstacle

-- A name that isn't found.
abbrev pub not_found : List ℕ → PlanObstacle
not_found name = name_not_found (normal_or_itself name)

-- Whether one of some modules has this path.
abbrev pub is_path_of : List KeyValue → List ℕ → List ℕ → Bool
is_path_of ms places path = list_any (λ x. bytes_eq (path_at ms x) path) places

-- Whether a side of a double line is present before the plan: the kernel, or a loaded module.
abbrev pub stands : Sources → List ℕ → Bool
stands s path =
    bytes_eq path vmlinux || is_path_of (modules s) (places_of (modules s) s.loaded) path

-- Whether a line is an obstacle of a kind: it is on a need of a planned module, or it is a double
-- line that collides with the plan.
abbrev pub is_obstacle : LineKind → (List ℕ → Bool) → (List ℕ → Bool) → Unbound → Bool
is_obstacle kinds.Missing in_plan there (lines.Missing path symbol) = in_plan path
is_obstacle kinds.Gpl in_plan there (lines.Gpl path symbol by) = in_plan path
is_obstacle kinds.Version in_plan there (lines.Version path symbol by) = in_plan path
is_obstacle kinds.Namespace in_plan there (lines.Namespace path symbol by) = in_plan path
is_obstacle kinds.Double in_plan there line =
    collides (λ path. in_plan path || there path) in_plan line
is_obstacle kind in_plan there line = false

-- The first line of a kind that is an obstacle.
abbrev pub first_line : LineKind → (List ℕ → Bool) → (List ℕ → Bool) → List Unbound
    → Option PlanObstacle
first_line kind in_plan there unmet =
    option_map unbound_line (find (is_obstacle kind in_plan there) unmet)

-- The first line of a kind that is an obstacle to what is planned.
abbrev pub line_of : Sources → List Found → LineKind → Option PlanObstacle
line_of s founds kind =
    first_line kind (is_path_of (modules s) (planned s founds)) (stands s) s.unmet

-- The cycle of some modules, if there are any.
abbrev pub cycle_obstacle : List (List ℕ) → Option PlanObstacle
cycle_obstacle [] = None
cycle_obstacle (name ∷ names) = Some (plan_cycle (name ∷ names))

-- The tests of what is planned.
abbrev pub plan_tests : Sources → List Found → List (Option PlanObstacle)
plan_tests s founds =
    line_of s founds kinds.Missing
    ∷ line_of s founds kinds.Gpl
    ∷ line_of s founds kinds.Version
    ∷ line_of s founds kinds.Namespace
    ∷ cycle_obstacle (map (name_at (modules s)) (cycle (among (before s)) (planned s founds)))
    ∷ line_of s founds kinds.Double
    ∷ []

-- The first obstacle of a request.
unfoldable pub obstacle_of : Sources → Request → Option PlanObstacle
obstacle_of s request = first (
    option_map bad_dep_line (bad_name s.maps.dep)
    ∷ option_map not_found (find (is_unfound s) request.names)
    ∷ option_map not_found
    (find (is_unknown s request.ignore_install) (all_names (found_for s request)))
    ∷ plan_tests s (found_for s request))

-- An obstacle as the code answers it.
abbrev pub as_obstacle : PlanObstacle → Obstacle
as_obstacle (bad_dep_line name) = obstacles.BadDepLine name
as_obstacle (name_not_found name) = obstacles.NotFound name
as_obstacle (unbound_line (lines.Missing path symbol)) = obstacles.Missing path symbol
as_obstacle (unbound_line (lines.Gpl path symbol by)) = obstacles.Gpl path symbol by
as_obstacle (unbound_line (lines.Version path symbol by)) = obstacles.Version path symbol by
as_obstacle (unbound_line (lines.Namespace path symbol by)) = obstacles.Namespace path symbol by
as_obstacle (unbound_line (lines.Double symbol a b)) = obstacles.Double symbol a b
as_obstacle (plan_cycle names) = obstacles.Cycle names
