-- Closed plans: the steps of a plan over dependency lines, lines of modules.unmet and the names of
-- loaded modules. modules.dep(5).
use Rattle.std.specs.Prelude.{◌≡◌, ◌&&◌, ◌||◌, ℕ, Bool, true, false, List, [], ◌∷◌, ◌++◌, All, Some}
use Rattle.std.specs.Prelude.{slice_get, if◌then◌else◌}
use Rattle.std.specs.List.{IsDistinct, list_any, flat_map}
use Rattle.std.specs.Option.{option_map_or}
use Rattle.std.specs.Str.{bytes_eq}
use Rattle.km_names.specs.Path.{module_name}
use Rattle.mod_tree.specs.DependencyLine.{own_path}
use Rattle.index_format.specs.Map.{Value, KeyValues, values_of}
use Rattle.symbol_binding.specs.Unmet.{vmlinux, belongs, collides}
use Rattle.name_table.specs.FirstSeen.{is_among}
use Rattle.name_lookup.specs.Maps.{has_value}
use Rattle.plan_builder.specs.declared.step.PlanStep.{PlanStep}
use Rattle.plan_builder.specs.declared.step.PlanStep.TheVariants.{Insert, Install, Builtin}
use Rattle.dependency_lines.specs.Modules.{needed_names}
use Rattle.plan_sources.specs.Sources.{Sources}

-- The first text under a name: the dependency line of the module of this name.
abbrev pub first_text : KeyValues → List ℕ → List ℕ
first_text dep name = option_map_or (λ (v : Value). v.1) (slice_get (values_of dep name) 0) []

-- The name of the module of a step: the one that is loaded, or that a command is run for. A command
-- can be run for a name that is no module's, and no module is loaded if it is built in.
abbrev pub step_module : KeyValues → PlanStep → List (List ℕ)
step_module dep (Insert name path options) = name ∷ []
step_module dep (Install name command) = if has_value dep name then name ∷ [] else []
step_module dep (Builtin name) = []

-- The names of the modules of some steps, in their order.
abbrev pub step_modules : KeyValues → List PlanStep → List (List ℕ)
step_modules dep steps = flat_map (step_module dep) steps

-- Whether one of some names is a module's whose dependency line has this path first.
abbrev pub is_at_one : KeyValues → List (List ℕ) → List ℕ → Bool
is_at_one dep names path =
    list_any (λ name. has_value dep name && bytes_eq (own_path (first_text dep name)) path) names

-- Whether the path is the kernel's, or that of one of some names.
abbrev pub is_there : KeyValues → List (List ℕ) → List ℕ → Bool
is_there dep names path = bytes_eq path vmlinux || is_at_one dep names path

-- The path is the first of the dependency line of the module of this name, and that module's.
pub record IsOwnPath (dep : KeyValues) (name path : List ℕ) : Type 0 where
  pub value : Value
  pub first : slice_get (values_of dep name) 0 ≡ Some value
  pub own : own_path value.1 ≡ path
  pub named : module_name path ≡ name

-- A step that loads a module loads it from its own path.
abbrev pub IsAtOwnPath : KeyValues → PlanStep → Type 0
IsAtOwnPath dep (Insert name path options) = IsOwnPath dep name path
IsAtOwnPath dep (Install name command) = Unit {0}
IsAtOwnPath dep (Builtin name) = Unit {0}

-- The steps of a plan are closed over the loaded names, by dependency lines and lines of
-- modules.unmet.
pub record IsClosedPlan (s : Sources) (steps : List PlanStep) : Type 0 where
  -- The modules of its steps are distinct, and none is loaded.
  pub distinct : IsDistinct bytes_eq (step_modules s.maps.dep steps)
  pub unloaded : (name : List ℕ) → is_among (step_modules s.maps.dep steps) name ≡ true
      → is_among s.loaded name ≡ false
  -- Each module that is loaded has its own name, and the first path of its dependency line.
  pub paths : All (IsAtOwnPath s.maps.dep) steps
  -- Each module that the dependency line of a step's module names is loaded, or belongs to an
  -- earlier step.
  pub behind : (before : List PlanStep) (step : PlanStep) (after : List PlanStep)
      → steps ≡ before ++ step ∷ after → (name : List ℕ)
      → is_among (step_module s.maps.dep step) name ≡ true → (needed : List ℕ)
      → is_among (needed_names (first_text s.maps.dep name)) needed ≡ true
      → is_among (s.loaded ++ step_modules s.maps.dep before) needed ≡ true
  -- No double line has both sides among the plan's modules, the loaded ones and the kernel, and one
  -- of them in the plan.
  pub alone : list_any
      (collides (is_there s.maps.dep (s.loaded ++ step_modules s.maps.dep steps))
      (is_at_one s.maps.dep (step_modules s.maps.dep steps))) s.unmet
      ≡ false
  -- No other line belongs to a module of the plan.
  pub clear : (name : List ℕ) → is_among (step_modules s.maps.dep steps) name ≡ true
      → list_any (belongs (own_path (first_text s.maps.dep name))) s.unmet ≡ false
