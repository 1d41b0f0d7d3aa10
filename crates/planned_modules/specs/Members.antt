-- What some names are resolved to, and the modules that are planned for them. modprobe(8).
use Rattle.std.specs.Prelude.{ℕ, ◌==◌, Bool, true, false, List, map, Option, Some, None}
use Rattle.std.specs.Prelude.{if◌then◌else◌}
use Rattle.std.specs.List.{flat_map}
use Rattle.std.specs.Str.{bytes_eq}
use Rattle.km_names.specs.First.{first}
use Rattle.km_names.specs.AliasForm.{normal_or_itself}
use Rattle.modprobe_conf.specs.declared.rule.Rule.{Rule}
use Rattle.modprobe_conf.specs.declared.rule.Rule.TheVariants.{Install}
use Rattle.name_lookup.specs.declared.found.Found.{Found}
use Rattle.name_lookup.specs.Maps.{has_value}
use Rattle.name_lookup.specs.Found.{found}
use Rattle.plan_order.specs.Plan.{planned as planned_for}
use Rattle.plan_order.specs.Lists.{among}
use Rattle.dependency_lines.specs.Modules.{place_of, places_of}
use Rattle.planned_modules.specs.declared.fault.ResolveFault.{ResolveFault}
use Rattle.planned_modules.specs.declared.fault.ResolveFault.TheVariants.{NotFound}
use Rattle.plan_sources.specs.Sources.{Sources, modules}
use Rattle.planned_modules.specs.Needs.{before, after, unloaded}

-- What is found for each of some names.
abbrev pub founds_of : Sources → List (List ℕ) → List Found
founds_of s names = map (found s.rules s.maps s.use_blacklist) names

-- The modules of what was found for each name, by their places.
abbrev pub asked : Sources → List Found → List (List ℕ)
asked s founds = map (λ f. places_of (modules s) f.names) founds

-- All that is planned.
abbrev pub planned : Sources → List Found → List ℕ
planned s founds = planned_for (among (before s)) (unloaded s) (after s) (asked s founds)

-- The command of a rule for loading the module of this name.
abbrev pub command_of : List ℕ → Rule → Option (List ℕ)
command_of name (Install owner command) = if bytes_eq owner name then Some command else None
command_of name _ = None

-- The first command for loading the module of this name.
abbrev pub install_command : List Rule → List ℕ → Option (List ℕ)
install_command rules name = first (map (command_of name) rules)

-- The command that is run instead of loading the module of this name, unless commands are ignored.
abbrev pub chosen_command : List Rule → Bool → List ℕ → Option (List ℕ)
chosen_command rules ignored name = if ignored then None else install_command rules name

-- The kind of a name that was found: a module, a name that a command is run for, a built-in module,
-- or an unknown name.
pub data ResolvedKind : Type 0 where
  loadable : ℕ → ResolvedKind
  installed : List ℕ → ResolvedKind
  inside : ResolvedKind
  unknown : ResolvedKind

abbrev pub kind_unless : Option ℕ → Option (List ℕ) → Bool → ResolvedKind
kind_unless (Some place) command builtin = loadable place
kind_unless None (Some command) builtin = installed command
kind_unless None None builtin = if builtin then inside else unknown

abbrev pub kind_of : Sources → Bool → List ℕ → ResolvedKind
kind_of s ignored name =
    kind_unless (place_of (modules s) name) (chosen_command s.rules ignored name)
    (has_value s.maps.builtin name)

-- Whether a kind is the unknown one.
abbrev pub is_unknown_kind : ResolvedKind → Bool
is_unknown_kind (loadable place) = false
is_unknown_kind (installed command) = false
is_unknown_kind inside = false
is_unknown_kind unknown = true

-- Whether the name is unknown.
abbrev pub is_unknown : Sources → Bool → List ℕ → Bool
is_unknown s ignored name = is_unknown_kind (kind_of s ignored name)

-- Whether all lists of a name are empty.
abbrev pub is_unfound : Sources → List ℕ → Bool
is_unfound s name = (found s.rules s.maps s.use_blacklist name).list == 0

-- The names of all that was found.
abbrev pub all_names : List Found → List (List ℕ)
all_names founds = flat_map (λ f. f.names) founds

-- The fault of a name that nothing is found for, or that is unknown: it is in its normal form, if
-- it has one.
abbrev pub unfound : List ℕ → ResolveFault
unfound name = NotFound (normal_or_itself name)
