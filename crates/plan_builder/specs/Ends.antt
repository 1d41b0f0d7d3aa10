-- The steps of a plan, by the places in its order at which the groups of the requested names end.
-- It belongs to the code: no public meaning rests on it.
use Rattle.std.specs.Prelude.{ℕ, ◌<◌, ◌≤◌, ◌-◌, ◌+◌, List, [], ◌∷◌, ◌++◌, map, length, take, drop}
use Rattle.std.specs.Prelude.{slice_index}
use Rattle.name_lookup.specs.declared.found.Found.{Found}
use Rattle.plan_builder.specs.declared.request.Request.{Request}
use Rattle.plan_builder.specs.declared.step.PlanStep.{PlanStep}
use Rattle.plan_sources.specs.Sources.{Sources}
use Rattle.plan_builder.specs.Steps.{own_steps, module_step}

-- No group ends before the one before it, or past the order.
pub record RisingEnds (ends : List ℕ) (long : ℕ) : Type 0 where
  pub rising : (k : ℕ) → k + 1 < length ends → slice_index ends k ≤ slice_index ends (k + 1)
  pub within : (k : ℕ) → k < length ends → slice_index ends k ≤ long

-- The steps of requested names after the earlier ones. The first name's group begins at a place.
abbrev pub steps_by : Sources → Request → List (List ℕ) → ℕ → List Found → List ℕ → List ℕ
    → List PlanStep
steps_by s request earlier start [] ends order = map (module_step s request) (drop start order)
steps_by s request earlier start (f ∷ more) [] order =
    map (module_step s request) (drop start order)
steps_by s request earlier start (f ∷ more) (end ∷ ends) order =
    own_steps s request earlier f.names
    ++ (map (module_step s request) (take (end - start) (drop start order))
    ++ steps_by s request (earlier ++ f.names) end more ends order)
