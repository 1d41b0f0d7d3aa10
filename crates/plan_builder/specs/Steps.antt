-- The steps of a plan. modprobe(8), modprobe.d(5).
use Rattle.std.specs.Prelude.{ℕ, ◌==◌, ◌&&◌, not, List, [], ◌∷◌, ◌++◌, map, length, take, drop}
use Rattle.std.specs.Prelude.{slice_get, Option, Some, None, if◌then◌else◌}
use Rattle.std.specs.List.{flat_map, range_with_len}
use Rattle.std.specs.Option.{option_map_or}
use Rattle.std.specs.Str.{bytes_eq}
use Rattle.km_names.specs.Texts.{spaced}
use Rattle.modprobe_conf.specs.declared.rule.Rule.{Rule}
use Rattle.modprobe_conf.specs.declared.rule.Rule.TheVariants.{Options}
use Rattle.name_table.specs.FirstSeen.{is_among}
use Rattle.name_lookup.specs.declared.found.Found.{Found}
use Rattle.plan_order.specs.Plan.{plan as plan_for, with_groups, group}
use Rattle.plan_order.specs.Lists.{among}
use Rattle.plan_builder.specs.declared.request.Request.{Request}
use Rattle.plan_builder.specs.declared.step.PlanStep.{PlanStep}
use Rattle.plan_builder.specs.declared.step.PlanStep.TheVariants.{Insert, Install, Builtin}
use Rattle.dependency_lines.specs.Modules.{name_at, path_at, places_of}
use Rattle.plan_sources.specs.Sources.{Sources, modules}
use Rattle.planned_modules.specs.Needs.{before, after, unloaded}
use Rattle.planned_modules.specs.Members.{asked, ResolvedKind, loadable, installed, inside, unknown}
use Rattle.planned_modules.specs.Members.{kind_of, chosen_command, all_names}
use Rattle.plan_builder.specs.Requested.{found_for, is_member}

-- The parameters that a rule has for the module of this name.
abbrev pub rule_options : List ℕ → Rule → List (List ℕ)
rule_options name (Options owner text) = if bytes_eq owner name then text ∷ [] else []
rule_options name _ = []

-- The request's own parameters, if there are any and a requested name is resolved to the module.
abbrev pub own_options : Sources → Request → List ℕ → List (List ℕ)
own_options s request name =
    if not (length request.options == 0) && is_member s request name
    then request.options ∷ []
    else []

-- The parameters that a module is loaded with: the ones of its rules, and then the request's.
abbrev pub options_of : Sources → Request → List ℕ → List ℕ
options_of s request name =
    spaced (flat_map (rule_options name) s.rules ++ own_options s request name)

-- The step of a module: its command, if it has one that isn't ignored, and else loading it.
abbrev pub step_unless : Option (List ℕ) → List ℕ → List ℕ → List ℕ → PlanStep
step_unless (Some command) name path options = Install name command
step_unless None name path options = Insert name path options

abbrev pub module_step : Sources → Request → ℕ → PlanStep
module_step s request x =
    let name = name_at (modules s) x in
    step_unless (chosen_command s.rules (request.ignore_install && is_member s request name) name)
    name (path_at (modules s) x) (options_of s request name)

-- The step of a member that is no module.
abbrev pub step_of_kind : ResolvedKind → List ℕ → List PlanStep
step_of_kind (loadable place) name = []
step_of_kind (installed command) name = Install name command ∷ []
step_of_kind inside name = Builtin name ∷ []
step_of_kind unknown name = []

abbrev pub own_step : Sources → Request → List ℕ → List PlanStep
own_step s request name = step_of_kind (kind_of s request.ignore_install name) name

-- The steps of the names of a list that are no modules and aren't among earlier names.
abbrev pub own_step_unless : Sources → Request → List (List ℕ) → List ℕ → List PlanStep
own_step_unless s request earlier name =
    if is_among earlier name then [] else own_step s request name

abbrev pub own_steps : Sources → Request → List (List ℕ) → List (List ℕ) → List PlanStep
own_steps s request earlier names = flat_map (own_step_unless s request earlier) names

-- What is done after the groups of some names, by what is found for each.
abbrev pub done_after : Sources → List Found → List ℕ
done_after s founds = with_groups (among (before s)) (unloaded s) [] (asked s founds)

-- The steps of a name after earlier ones, by what is found for each: those of its names that are no
-- modules and aren't found earlier, in the order they were found in, and then those of the modules
-- of its group.
abbrev pub steps_of : Sources → Request → List Found → Found → List PlanStep
steps_of s request earlier f =
    own_steps s request (all_names earlier) f.names
    ++ map (module_step s request)
    (group (among (before s)) (unloaded s) (done_after s earlier)
    (places_of (modules s) f.names))

-- The steps of the name at a place.
abbrev pub steps_at : Sources → Request → List Found → ℕ → List PlanStep
steps_at s request founds k =
    option_map_or (steps_of s request (take k founds)) (slice_get founds k) []

-- The steps of some names: name by name, in their order.
abbrev pub found_steps : Sources → Request → List Found → List PlanStep
found_steps s request founds =
    flat_map (steps_at s request founds) (range_with_len 0 (length founds))

-- The modules that are planned after the groups of the requested names: what is asked for after
-- other modules.
abbrev pub later : Sources → List Found → List ℕ
later s founds =
    drop (length (done_after s founds))
    (plan_for (among (before s)) (unloaded s) (after s) (asked s founds))

-- The plan: the steps of the requested names, and then the steps of what is asked for after modules
-- of the plan.
unfoldable pub plan_steps : Sources → Request → List PlanStep
plan_steps s request =
    found_steps s request (found_for s request)
    ++ map (module_step s request) (later s (found_for s request))
