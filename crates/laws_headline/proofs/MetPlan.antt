-- Plans of a module that uses another, computed from the files of depmod.
use Rattle.std.proofs.Common.{◌≡◌, ◌∙◌, ℕ, Bool, true, false, List, [], ◌∷◌, ◌++◌, length, map}
use Rattle.std.proofs.Common.{codes, refl, ap}
use Rattle.std.specs.Prelude.{Option, None, not, ◌==◌, unwrap_or, flat_map, filter, drop}
use Rattle.std.specs.Prelude.{find as find_in, option_map}
use Rattle.std.specs.Ordering.{nat_cmp}
use Rattle.std.specs.Cmp.Lexicographic.{slice_cmp}
use Rattle.std.specs.FinMap.{entries, find, get, entries-from_sorted, get-from_sorted}
use Rattle.km_names.specs.First.{first}
use Rattle.km_names.specs.Texts.{spaced}
use Rattle.index_format.specs.Listing.{KeyValue}
use Rattle.index_format.specs.Tree.{Entry}
use Rattle.index_read.specs.Contents.{contents}
use Rattle.index_read.specs.Keys.{branches, items}
use Rattle.modprobe_conf.specs.declared.rule.Rule.{Rule}
use Rattle.modprobe_conf.specs.declared.rule.Rule.TheVariants as rules
use Rattle.name_lookup.specs.declared.found.Found.{Found}
use Rattle.name_lookup.specs.declared.indexes.Indexes.{Indexes}
use Rattle.name_lookup.specs.Found.{found}
use Rattle.name_lookup.specs.Maps.{has_value, maps_of}
use Rattle.name_table.specs.FirstSeen.{is_among}
use Rattle.relation_order.specs.Cycle.{cycle}
use Rattle.relation_order.specs.Sets.{below}
use Rattle.planned_modules.specs.Members.{chosen_command, kind_unless, is_unknown_kind, is_unfound}
use Rattle.planned_modules.specs.Members.{is_unknown, all_names}
use Rattle.plan_builder.specs.Requested.{found_for}
use Rattle.dependency_lines.specs.Modules.{line_places, bad_among, bad_name, by_number, first_value}
use Rattle.dependency_lines.specs.Modules.{modules_of, name_at, path_at, place_of, places_of}
use Rattle.plan_sources.specs.Sources.{Sources, modules}
use Rattle.planned_modules.specs.Needs.{after, before, unloaded}
use Rattle.plan_builder.specs.Obstacles.{PlanObstacle, bad_dep_line, cycle_obstacle, not_found}
use Rattle.plan_builder.specs.Obstacles.{obstacle_of, plan_tests}
use Rattle.plan_builder.specs.Sources.{sources}
use Rattle.plan_builder.specs.Steps.{found_steps, later, plan_steps, rule_options, step_of_kind}
use Rattle.plan_builder.specs.Steps.{step_unless, module_step}
use Rattle.plan_builder.specs.declared.request.Request.{Request}
use Rattle.plan_builder.specs.declared.step.PlanStep.{PlanStep}
use Rattle.plan_builder.specs.declared.step.PlanStep.TheVariants.{Insert, Install}
use Rattle.plan_order.specs.Lists.{among}
use Rattle.plan_order.specs.Plan.{group, plan, planned, with_groups}
use Rattle.stages_files.specs.IndexFile.{index_of}
use Rattle.laws_headline.proofs.Computing.{computing}
use Rattle.laws_headline.proofs.MetFiles.{dep_bytes, earlier_bytes, empty_bytes, symbols_bytes}

-- the indexes of which that of dependency lines has these bytes, and the others are those of the
-- two modules
abbrev pub indexes_by : List ℕ → Indexes
indexes_by dep =
    record {
      dep = index_of dep;
      alias = index_of empty_bytes;
      symbols = index_of symbols_bytes;
      builtin = index_of empty_bytes;
    }

-- a plan for the module is asked for
abbrev pub request : Request
request =
    record { names = codes "m" ∷ []; options = []; use_blacklist = false; ignore_install = false }

abbrev pub sources_by : List Rule → List (List ℕ) → List ℕ → Sources
sources_by stated loaded dep = sources stated (indexes_by dep) [] loaded request

-- it is found as the name of a module
abbrev found_itself : Found
found_itself = record { list = 2; names = codes "m" ∷ [] }

-- ---- plans by the modules of a folder, where no module is wanted before or after another by a
-- rule

abbrev kind_step : List Rule → List ℕ → List KeyValue → List PlanStep
kind_step stated dep ms =
    step_of_kind (kind_unless (place_of ms (codes "m")) (chosen_command stated false (codes "m"))
    (has_value (maps_of (indexes_by dep)).builtin (codes "m"))) (codes "m")
    ++ []

abbrev step_by : List Rule → List KeyValue → ℕ → PlanStep
step_by stated ms x =
    step_unless (chosen_command stated false (name_at ms x)) (name_at ms x) (path_at ms x)
    (spaced (flat_map (rule_options (name_at ms x)) stated ++ []))

abbrev later_by : (ℕ → List ℕ) → List ℕ → List KeyValue → Found → List ℕ
later_by b u ms f =
    drop (length (with_groups (among b) u [] (places_of ms f.names ∷ [])))
    (plan (among b) u (λ x. []) (places_of ms f.names ∷ []))

abbrev steps_by : List Rule → List ℕ → (ℕ → List ℕ) → List ℕ → List KeyValue → List PlanStep
steps_by stated dep b u ms =
    ((kind_step stated dep ms
    ++ map (step_by stated ms)
    (group (among b) u [] (places_of ms (codes "m" ∷ []))))
    ++ [])
    ++ map (step_by stated ms) (later_by b u ms found_itself)

abbrev unknown_by : List Rule → List ℕ → List KeyValue → List ℕ → Bool
unknown_by stated dep ms name =
    is_unknown_kind
    (kind_unless (place_of ms name) (chosen_command stated false name)
    (has_value (maps_of (indexes_by dep)).builtin name))

abbrev obstacle_by : Option PlanObstacle → List Rule → List ℕ → (ℕ → List ℕ) → List ℕ
    → List KeyValue → Found → Option PlanObstacle
obstacle_by bad stated dep b u ms f = first (
    bad
    ∷ option_map not_found (find_in (λ name. f.list == 0) (codes "m" ∷ []))
    ∷ option_map not_found (find_in (unknown_by stated dep ms) (f.names ++ []))
    ∷ None ∷ None ∷ None ∷ None
    ∷ cycle_obstacle
    (map (name_at ms)
    (cycle (among b) (planned (among b) u (λ x. []) (places_of ms f.names ∷ []))))
    ∷ None
    ∷ [])

-- what a plan is computed from
record ArePlanned (stated : List Rule) (loaded : List (List ℕ)) (dep : List ℕ) (b : ℕ → List ℕ)
    (u : List ℕ) (ms : List KeyValue) : Type 0 where
  bad : bad_name (contents dep) ≡ None
  itself : found stated (maps_of (indexes_by dep)) false (codes "m") ≡ found_itself
  is_before : before (sources_by stated loaded dep) ≡ b
  is_after : after (sources_by stated loaded dep) ≡ (λ x. [])
  is_unloaded : unloaded (sources_by stated loaded dep) ≡ u
  are : modules_of (contents dep) ≡ ms

steps-so : (stated : List Rule) (loaded : List (List ℕ)) (dep : List ℕ) (b : ℕ → List ℕ)
    (u : List ℕ) (ms : List KeyValue)
    → ArePlanned stated loaded dep b u ms
    → plan_steps (sources_by stated loaded dep) request ≡ steps_by stated dep b u ms
unfolding plan_steps
steps-so stated loaded dep b u ms p =
    let s = sources_by stated loaded dep in
    ap (λ f. found_steps s request (f ∷ []) ++ map (module_step s request) (later s (f ∷ [])))
    p.itself
    ∙ ap (λ post. ((kind_step stated dep (modules s)
    ++ map (step_by stated (modules s))
    (group (among (before s)) (unloaded s) []
    (places_of (modules s) (codes "m" ∷ []))))
    ++ [])
    ++ map (step_by stated (modules s))
    (drop (length
    (with_groups (among (before s)) (unloaded s) []
    (places_of (modules s) (codes "m" ∷ []) ∷ [])))
    (plan (among (before s)) (unloaded s) post
    (places_of (modules s) (codes "m" ∷ []) ∷ [])))) p.is_after
    ∙ ap (λ b. steps_by stated dep b (unloaded s) (modules s)) p.is_before
    ∙ ap (λ u. steps_by stated dep b u (modules s)) p.is_unloaded
    ∙ ap (steps_by stated dep b u) p.are

obstacle-so : (stated : List Rule) (loaded : List (List ℕ)) (dep : List ℕ) (b : ℕ → List ℕ)
    (u : List ℕ) (ms : List KeyValue)
    → ArePlanned stated loaded dep b u ms
    → obstacle_of (sources_by stated loaded dep) request
    ≡ obstacle_by None stated dep b u ms found_itself
unfolding obstacle_of
obstacle-so stated loaded dep b u ms p =
    let s = sources_by stated loaded dep in
    ap (λ bad. first (option_map bad_dep_line bad
    ∷ option_map not_found (find_in (is_unfound s) (codes "m" ∷ []))
    ∷ option_map not_found (find_in (is_unknown s false) (all_names (found_for s request)))
    ∷ plan_tests s (found_for s request))) p.bad
    ∙ ap (λ f. first
    (None ∷ option_map not_found (find_in (λ name. f.list == 0) (codes "m" ∷ []))
    ∷ option_map not_found (find_in (is_unknown s false) (all_names (f ∷ [])))
    ∷ plan_tests s (f ∷ []))) p.itself
    ∙ ap (λ post. first
    (None ∷ option_map not_found (find_in (λ name. found_itself.list == 0) (codes "m" ∷ []))
    ∷ option_map not_found (find_in (unknown_by stated dep (modules s)) (codes "m" ∷ []))
    ∷ None ∷ None ∷ None ∷ None
    ∷ cycle_obstacle
    (map (name_at (modules s))
    (cycle (among (before s))
    (planned (among (before s)) (unloaded s) post
    (places_of (modules s) (codes "m" ∷ []) ∷ []))))
    ∷ None ∷ [])) p.is_after
    ∙ ap (λ b. obstacle_by None stated dep b (unloaded s) (modules s) found_itself) p.is_before
    ∙ ap (λ u. obstacle_by None stated dep b u (modules s) found_itself) p.is_unloaded
    ∙ ap (λ ms. obstacle_by None stated dep b u ms found_itself) p.are

-- ---- the modules as depmod indexed them

abbrev dep_entries : List Entry
dep_entries = (codes "m", (0, codes "m.ko: p.ko") ∷ []) ∷ (codes "p", (1, codes "p.ko:") ∷ []) ∷ []

dep-read : entries (contents dep_bytes) ≡ dep_entries
unfolding contents branches items computing
dep-read = entries-from_sorted (slice_cmp nat_cmp) dep_entries tt

dep-get : (key : List ℕ) → get (contents dep_bytes) key ≡ find (slice_cmp nat_cmp) key dep_entries
unfolding contents branches items computing
dep-get key = get-from_sorted (slice_cmp nat_cmp) dep_entries key tt

-- whether a map of these entries has a value of a key
abbrev has_among : List Entry → List ℕ → Bool
has_among es key = not (length (unwrap_or (find (slice_cmp nat_cmp) key es) []) == 0)

dep-has : has_value (contents dep_bytes) ≡ has_among dep_entries
dep-has = λ i key. not (length (unwrap_or (dep-get key i) []) == 0)

has-m : has_value (contents dep_bytes) (codes "m") ≡ true
has-m = ap (λ has. has (codes "m")) dep-has

abbrev two_modules : List KeyValue
two_modules = (codes "m", (0, codes "m.ko: p.ko")) ∷ (codes "p", (1, codes "p.ko:")) ∷ []

modules-read : modules_of (contents dep_bytes) ≡ two_modules
unfolding modules_of
modules-read = ap (λ (es : List Entry). by_number (flat_map (λ e. first_value e.0 e.1) es)) dep-read

well-formed : bad_name (contents dep_bytes) ≡ None
unfolding computing
well-formed =
    ap (λ (es : List Entry). bad_among (has_value (contents dep_bytes))
    (flat_map (λ e. first_value e.0 e.1) es)) dep-read
    ∙ ap (λ has. bad_among has two_modules) dep-has

-- what comes before a module, by the dependency lines
abbrev uses_of : List KeyValue → ℕ → List ℕ
uses_of ms x = line_places ms x ++ []

-- the modules that aren't loaded
abbrev others_of : List (List ℕ) → List KeyValue → List ℕ
others_of loaded ms = filter (λ x. not (is_among loaded (name_at ms x))) (below (length ms))

-- ---- without a rule

found-plain : found [] (maps_of (indexes_by dep_bytes)) false (codes "m") ≡ found_itself
unfolding found computing
found-plain = rw has-m refl

abbrev pub two_steps : List PlanStep
two_steps = Insert (codes "p") (codes "p.ko") [] ∷ Insert (codes "m") (codes "m.ko") [] ∷ []

are-plain : ArePlanned [] [] dep_bytes (uses_of two_modules) (others_of [] two_modules) two_modules
are-plain = record {
  bad = well-formed;
  itself = found-plain;
  is_before = ap uses_of modules-read;
  is_after = refl;
  is_unloaded = ap (others_of []) modules-read;
  are = modules-read;
}

pub plain-unhindered : obstacle_of (sources_by [] [] dep_bytes) request ≡ None
unfolding plan computing
plain-unhindered =
    obstacle-so [] [] dep_bytes (uses_of two_modules) (others_of [] two_modules) two_modules
    are-plain

pub plain-steps : plan_steps (sources_by [] [] dep_bytes) request ≡ two_steps
unfolding plan computing
plain-steps =
    steps-so [] [] dep_bytes (uses_of two_modules) (others_of [] two_modules) two_modules are-plain

-- ---- where the other module is listed as loaded

abbrev pub loaded_other : List (List ℕ)
loaded_other = codes "p" ∷ []

are-left : ArePlanned [] loaded_other dep_bytes (uses_of two_modules)
    (others_of loaded_other two_modules) two_modules
are-left = record {
  bad = well-formed;
  itself = found-plain;
  is_before = ap uses_of modules-read;
  is_after = refl;
  is_unloaded = ap (others_of loaded_other) modules-read;
  are = modules-read;
}

pub left-unhindered : obstacle_of (sources_by [] loaded_other dep_bytes) request ≡ None
unfolding plan computing
left-unhindered =
    obstacle-so [] loaded_other dep_bytes (uses_of two_modules) (others_of loaded_other two_modules)
    two_modules are-left

pub left-steps : plan_steps (sources_by [] loaded_other dep_bytes) request
    ≡ Insert (codes "m") (codes "m.ko") [] ∷ []
unfolding plan computing
left-steps =
    steps-so [] loaded_other dep_bytes (uses_of two_modules) (others_of loaded_other two_modules)
    two_modules are-left

-- ---- with a command for the other module

abbrev pub command : List Rule
command = rules.Install (codes "p") (codes "true") ∷ []

found-commanded : found command (maps_of (indexes_by dep_bytes)) false (codes "m") ≡ found_itself
unfolding found computing
found-commanded = rw has-m refl

abbrev pub commanded_steps : List PlanStep
commanded_steps = Install (codes "p") (codes "true") ∷ Insert (codes "m") (codes "m.ko") [] ∷ []

are-commanded : ArePlanned command [] dep_bytes (uses_of two_modules) (others_of [] two_modules)
    two_modules
are-commanded = record {
  bad = well-formed;
  itself = found-commanded;
  is_before = ap uses_of modules-read;
  is_after = refl;
  is_unloaded = ap (others_of []) modules-read;
  are = modules-read;
}

pub commanded-unhindered : obstacle_of (sources_by command [] dep_bytes) request ≡ None
unfolding plan computing
commanded-unhindered =
    obstacle-so command [] dep_bytes (uses_of two_modules) (others_of [] two_modules) two_modules
    are-commanded

pub commanded-steps : plan_steps (sources_by command [] dep_bytes) request ≡ commanded_steps
unfolding plan computing
commanded-steps =
    steps-so command [] dep_bytes (uses_of two_modules) (others_of [] two_modules) two_modules
    are-commanded

-- ---- by an index in which the module doesn't use the other yet

abbrev earlier_entries : List Entry
earlier_entries = (codes "m", (0, codes "m.ko:") ∷ []) ∷ (codes "p", (1, codes "p.ko:") ∷ []) ∷ []

earlier-read : entries (contents earlier_bytes) ≡ earlier_entries
unfolding contents branches items computing
earlier-read = entries-from_sorted (slice_cmp nat_cmp) earlier_entries tt

earlier-get : (key : List ℕ)
    → get (contents earlier_bytes) key ≡ find (slice_cmp nat_cmp) key earlier_entries
unfolding contents branches items computing
earlier-get key = get-from_sorted (slice_cmp nat_cmp) earlier_entries key tt

earlier-has : has_value (contents earlier_bytes) ≡ has_among earlier_entries
earlier-has = λ i key. not (length (unwrap_or (earlier-get key i) []) == 0)

earlier-has-m : has_value (contents earlier_bytes) (codes "m") ≡ true
earlier-has-m = ap (λ has. has (codes "m")) earlier-has

abbrev earlier_modules : List KeyValue
earlier_modules = (codes "m", (0, codes "m.ko:")) ∷ (codes "p", (1, codes "p.ko:")) ∷ []

earlier-modules : modules_of (contents earlier_bytes) ≡ earlier_modules
unfolding modules_of
earlier-modules =
    ap (λ (es : List Entry). by_number (flat_map (λ e. first_value e.0 e.1) es)) earlier-read

earlier-formed : bad_name (contents earlier_bytes) ≡ None
unfolding computing
earlier-formed =
    ap (λ (es : List Entry). bad_among (has_value (contents earlier_bytes))
    (flat_map (λ e. first_value e.0 e.1) es)) earlier-read
    ∙ ap (λ has. bad_among has earlier_modules) earlier-has

found-earlier : found [] (maps_of (indexes_by earlier_bytes)) false (codes "m") ≡ found_itself
unfolding found computing
found-earlier = rw earlier-has-m refl

are-earlier : ArePlanned [] [] earlier_bytes (uses_of earlier_modules)
    (others_of [] earlier_modules) earlier_modules
are-earlier = record {
  bad = earlier-formed;
  itself = found-earlier;
  is_before = ap uses_of earlier-modules;
  is_after = refl;
  is_unloaded = ap (others_of []) earlier-modules;
  are = earlier-modules;
}

pub earlier-unhindered : obstacle_of (sources_by [] [] earlier_bytes) request ≡ None
unfolding plan computing
earlier-unhindered =
    obstacle-so [] [] earlier_bytes (uses_of earlier_modules) (others_of [] earlier_modules)
    earlier_modules are-earlier

pub earlier-steps : plan_steps (sources_by [] [] earlier_bytes) request
    ≡ Insert (codes "m") (codes "m.ko") [] ∷ []
unfolding plan computing
earlier-steps =
    steps-so [] [] earlier_bytes (uses_of earlier_modules) (others_of [] earlier_modules)
    earlier_modules are-earlier
