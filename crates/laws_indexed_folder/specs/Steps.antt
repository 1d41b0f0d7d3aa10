-- Plans that are made for requests, as closed plans by names. modprobe(8).
use Rattle.std.specs.Prelude.{◌≡◌, ℕ, Bool, true, false, List, [], ◌∷◌, map, All, None}
use Rattle.std.specs.List.{list_any, flat_map}
use Rattle.name_table.specs.FirstSeen.{is_among}
use Rattle.name_lookup.specs.Maps.{has_value}
use Rattle.plan_builder.specs.declared.request.Request.{Request}
use Rattle.plan_builder.specs.declared.step.PlanStep.{PlanStep}
use Rattle.plan_builder.specs.declared.step.PlanStep.TheVariants.{Insert, Install, Builtin}
use Rattle.plan_sources.specs.Sources.{Sources}
use Rattle.plan_builder.specs.Steps.{plan_steps}
use Rattle.plan_builder.specs.Obstacles.{obstacle_of}
use Rattle.plan_builder.specs.Closed.{IsAtOwnPath}
use Rattle.laws_closed_plans.specs.Lines.{AreClosed}
use Rattle.laws_indexed_folder.specs.Index.{lines_of_map}

-- The name of the module that a step loads, if it loads one.
abbrev pub inserted_name : PlanStep → List (List ℕ)
inserted_name (Insert name path options) = name ∷ []
inserted_name (Install name command) = []
inserted_name (Builtin name) = []

-- The names of the modules that steps load, in their order.
abbrev pub inserted_names : List PlanStep → List (List ℕ)
inserted_names steps = flat_map inserted_name steps

-- The path that a step loads a module from, if it loads one.
abbrev pub inserted_path : PlanStep → List (List ℕ)
inserted_path (Insert name path options) = path ∷ []
inserted_path (Install name command) = []
inserted_path (Builtin name) = []

-- The paths that steps load modules from, in their order.
abbrev pub inserted_paths : List PlanStep → List (List ℕ)
inserted_paths steps = flat_map inserted_path steps

-- Whether the step runs a command.
abbrev pub runs_command : PlanStep → Bool
runs_command (Insert name path options) = false
runs_command (Install name command) = true
runs_command (Builtin name) = false

-- The modules that some steps load are a closed plan over the loaded names, and each is loaded from
-- the first path of its dependency line.
pub record AreClosedSteps (s : Sources) (steps : List PlanStep) : Type 0 where
  pub closed : AreClosed (lines_of_map s.maps.dep) s.unmet s.loaded (inserted_names steps)
  pub own_paths : All (IsAtOwnPath s.maps.dep) steps
  pub paths : inserted_paths steps ≡ map (lines_of_map s.maps.dep).path (inserted_names steps)

-- The steps of each plan that runs no command are closed, over loaded modules that have dependency
-- lines.
abbrev pub PlansAreClosed : Type 0
PlansAreClosed =
    (s : Sources) (request : Request)
    → obstacle_of s request ≡ None
    → list_any runs_command (plan_steps s request) ≡ false
    → ((name : List ℕ) → is_among s.loaded name ≡ true → has_value s.maps.dep name ≡ true)
    → AreClosedSteps s (plan_steps s request)
