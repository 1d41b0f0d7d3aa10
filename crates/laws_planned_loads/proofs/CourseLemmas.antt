-- The courses of loads over folders that are as depmod indexed them.
use Rattle.std.proofs.Common.{◌≡◌, ◌∙◌, ◌==◌, ℕ, Bool, true, false, ◌||◌, List, [], ◌∷◌, ◌++◌}
use Rattle.std.proofs.Common.{length, map, reverse, flat_map, None, refl, sym, ap, subst, arith}
use Rattle.std.specs.Prelude.{Option, Some, Result, Ok, Err, IsOk, IfErr, All, not, slice_get}
use Rattle.std.specs.FinMap.{get}
use Rattle.std.specs.List.{list_any}
use Rattle.std.specs.Str.{bytes_eq}
use Rattle.std.proofs.lemmas.Bool.Decides.{nat_tests}
use Rattle.std.proofs.lemmas.List.Elements.{All-head, All-tail}
use Rattle.std.proofs.lemmas.Slice.Eq.{bytes_eq-Decides}
use Rattle.km_names.specs.First.{first}
use Rattle.km_names.specs.Path.{path_below}
use Rattle.outside_calls.specs.Contents.{Contents}
use Rattle.km_course.specs.Course.Outcome.{value}
use Rattle.index_format.specs.Map.{Value, KeyValues, values_of}
use Rattle.index_format.specs.Holds.{Holds}
use Rattle.index_format.specs.Node.{root}
use Rattle.index_format.specs.Walk.{at}
use Rattle.index_read.specs.Contents.{contents}
use Rattle.index_read.specs.declared.index.Index.{Index}
use Rattle.index_read.proofs.ContentsLemmas.{held as contents-held}
use Rattle.mod_tree.specs.DependencyLine.{own_path}
use Rattle.mod_tree.specs.Tree.{is_module_path}
use Rattle.module_facts.specs.declared.facts.Facts.{Facts}
use Rattle.module_facts.specs.declared.module.Module.{Module}
use Rattle.module_facts.specs.Facts.{facts_of}
use Rattle.module_facts.specs.Faults.{fact_fault}
use Rattle.kernel_exports.specs.declared.kernel.Kernel.{Kernel}
use Rattle.provider_rel.specs.Faces.{kernel_of}
use Rattle.load_fault.specs.declared.fault.LoadFault.{LoadFault}
use Rattle.module_region.specs.declared.region.Region.{Region}
use Rattle.model_loader.specs.Machine.{Machine, new_machine}
use Rattle.name_lookup.specs.Maps.{has_value}
use Rattle.name_table.specs.FirstSeen.{is_among}
use Rattle.plan_builder.specs.declared.request.Request.{Request}
use Rattle.plan_builder.specs.declared.step.PlanStep.{PlanStep}
use Rattle.plan_builder.specs.declared.step.PlanStep.TheVariants.{Insert, Install, Builtin}
use Rattle.plan_builder.specs.Closed.{IsAtOwnPath, IsOwnPath}
use Rattle.plan_builder.specs.Obstacles.{obstacle_of}
use Rattle.plan_builder.specs.Steps.{plan_steps}
use Rattle.plan_builder.specs.Text.{first_obstacle_text}
use Rattle.plan_builder.proofs.PlanTexts.{no-obstacle}
use Rattle.laws_closed_plans.specs.Loads.{IsPlaceFault, load_all, unless_refused}
use Rattle.laws_closed_plans.specs.Binding.{Binds, IsLoaded}
use Rattle.laws_closed_plans.proofs.ListLemmas.{first-none}
use Rattle.laws_closed_plans.proofs.LoadLemmas.{load-append}
use Rattle.depmod_core.specs.declared.file.OutputFile.TheVariants.{Unmet}
use Rattle.depmod_core.specs.Files.{content, file_name, files}
use Rattle.laws_indexed_folder.specs.Binding.{StandsAsIndexed}
use Rattle.laws_indexed_folder.specs.Folder.{AreModulesOf, IsModuleOf, IsRead as IsReadFolder}
use Rattle.laws_indexed_folder.specs.Index.{lines_of_map}
use Rattle.laws_indexed_folder.specs.Indexed.{HasFile, Indexed}
use Rattle.laws_indexed_folder.specs.Steps.{AreClosedSteps, inserted_names, runs_command}
use Rattle.laws_indexed_folder.proofs.FolderLemmas.{folders-bind}
use Rattle.laws_indexed_folder.proofs.IndexedLemmas.{folders-read}
use Rattle.laws_indexed_folder.proofs.NamedLemmas.{lines-are-of-tree}
use Rattle.laws_indexed_folder.proofs.StepLemmas.{plans-closed}
use Rattle.index_read.specs.Lookups.{text_of_first}
use Rattle.stages_files.specs.IndexFile.{first_text}
use Rattle.stages_files.specs.KernelModules.{path_listed}
use Rattle.stages_loads.specs.Modules.{module_at}
use Rattle.stages_known.specs.declared.known.Known.{Known}
use Rattle.km_course.specs.Course.{value_unless}
use Rattle.km_course.specs.declared.refusal.Refusal.TheVariants.{Obstacle as Unplanned}
use Rattle.km_course.specs.declared.refusal.Refusal.TheVariants.{InstallChosen}
use Rattle.command_modprobe.specs.Planned.{plan_outcome, sources_with}
use Rattle.stages_loads.specs.declared.load.Insertion.{Insertion}
use Rattle.stages_loads.specs.Loads.{paths_of}
use Rattle.command_modprobe.specs.Loaded.{command_owner, inserted, inserts_outcome}
use Rattle.laws_planned_loads.specs.Files.{AreFileModules, IsFileModule}
use Rattle.laws_planned_loads.specs.Listed.{AreListedPaths}
use Rattle.laws_planned_loads.specs.Courses.{CoursesBind, known_lines}
use Rattle.laws_planned_loads.proofs.ClosedLemmas.{among-reversed, closed-reversed}
use Rattle.laws_planned_loads.proofs.FileLemmas.{line-module}
use Rattle.laws_planned_loads.proofs.KnownLemmas.{KnowsFolder, knows-folder, read-there}
use Rattle.laws_planned_loads.proofs.ListedLemmas.{listed-are-of-machine, listed-line}

-- ---- modules of names

pub facts-at : (path bytes : List ℕ) (passed : fact_fault path bytes ≡ None)
    → (module_at path bytes passed).facts ≡ facts_of path bytes
unfolding module_at
facts-at path bytes passed = refl

first-value : (vs : List Value) (text : List ℕ) → text_of_first vs ≡ Some text
    → (v : Value) × (slice_get vs 0 ≡ Some v) × (v.1 ≡ text)
first-value [] text is = cc
first-value (v ∷ vs) text is = (v, refl, cc)

-- the first text of a name in an index is that of the map for which the index stands
indexed-value : (index : Index) (dep : KeyValues) (name text : List ℕ) → Holds index.nodes dep
    → first_text index.nodes name ≡ Some text
    → (v : Value) × (slice_get (values_of dep name) 0 ≡ Some v) × (v.1 ≡ text)
unfolding first_text
indexed-value index dep name text holds is =
    let found = first-value (at index.nodes (root index.nodes) name) text is in
    (found.0, ap (λ (vs : List Value). slice_get vs 0) (sym (holds.values name)) ∙ found.1, found.2)

some-value : (vs : List Value) (v : Value) → slice_get vs 0 ≡ Some v → not (length vs == 0) ≡ true
some-value [] v is = cc
some-value (w ∷ vs) v is = grind (arith, nat_tests)

module _ (held : Contents) (folder : List ℕ) (index : Index) (dep : KeyValues)
    (holds : Holds index.nodes dep) where
  listed-value : (name path : List ℕ) → path_listed index name ≡ Some path
      → (v : Value) × (slice_get (values_of dep name) 0 ≡ Some v) × (own_path v.1 ≡ path)
  listed-value name path is =
      let line = listed-line index name path is in
      let v = indexed-value index dep name line.0 holds line.1 in
      (v.0, v.1, ap own_path v.2 ∙ (line-module line.0 path line.2).0)

  -- each listed name has a dependency line
  pub have-values : (names paths : List (List ℕ)) → AreListedPaths (path_listed index) names paths
      → (name : List ℕ) → is_among names name ≡ true → has_value dep name ≡ true
  have-values [] [] are name in' = cc
  have-values [] (path ∷ paths) are name in' = absurd are
  have-values (other ∷ names) [] are name in' = absurd are
  have-values (other ∷ names) (path ∷ paths) are name in' =
      by_same (bytes_eq name other) refl in' (have-values names paths are.1 name)
    where
      by_same : (b : Bool) → bytes_eq name other ≡ b → (b || is_among names name) ≡ true
          → (is_among names name ≡ true → has_value dep name ≡ true) → has_value dep name ≡ true
      by_same false differ rest later = later rest
      by_same true same rest later =
          let v = listed-value other path are.0 in
          subst (λ n. has_value dep n ≡ true) (sym ((bytes_eq-Decides name other).0 same))
          (some-value (values_of dep other) v.0 v.1)

  -- the modules of listed names are those of the folder
  pub listed-modules : (names paths : List (List ℕ)) (ms : List Module)
      → AreListedPaths (path_listed index) names paths → AreFileModules held folder paths ms
      → AreModulesOf held folder dep names ms
  listed-modules [] [] [] found are = tt
  listed-modules [] [] (m ∷ ms) found are = absurd are
  listed-modules [] (path ∷ paths) ms found are = absurd found
  listed-modules (name ∷ names) [] ms found are = absurd found
  listed-modules (name ∷ names) (path ∷ paths) [] found are = absurd are
  listed-modules (name ∷ names) (path ∷ paths) (m ∷ ms) found are =
      let v = listed-value name path found.0 in
      let is = are.0 in (
        record {
          path = path;
          bytes = is.bytes;
          file = record { value = v.0; first = v.1; own = v.2; there = is.there };
          facts = ap (λ (x : Module). x.facts) is.read ∙ facts-at path is.bytes is.passed;
        },
        listed-modules names paths ms found.1 are.1,
      )

-- ---- steps

planned : (o : Option (List ℕ)) (made steps : List PlanStep)
    → value_unless Unplanned o made ≡ value steps
    → (o ≡ None) × (made ≡ steps)
planned None made steps is = (refl, cc)
planned (Some text) made steps is = cc

pub was-planned : (known : Known) (request : Request) (steps : List PlanStep)
    → plan_outcome known known.loaded request ≡ value steps
    → (obstacle_of (sources_with known known.loaded request) request ≡ None)
    × (plan_steps (sources_with known known.loaded request) request ≡ steps)
unfolding plan_outcome
was-planned known request steps is =
    let s = sources_with known known.loaded request in
    let h = planned (first_obstacle_text s request) (plan_steps s request) steps is in
    (no-obstacle s request h.0, h.1)

installed : (o : Option (List ℕ)) (made inserts : List Insertion)
    → value_unless InstallChosen o made ≡ value inserts → (o ≡ None) × (made ≡ inserts)
installed None made inserts is = (refl, cc)
installed (Some name) made inserts is = cc

pub were-given : (steps : List PlanStep) (inserts : List Insertion)
    → inserts_outcome steps ≡ value inserts
    → (first (map command_owner steps) ≡ None) × (flat_map inserted steps ≡ inserts)
unfolding inserts_outcome
were-given steps inserts is =
    installed (first (map command_owner steps)) (flat_map inserted steps) inserts is

owner-none : (step : PlanStep) → command_owner step ≡ None → runs_command step ≡ false
owner-none (Insert name path options) is = refl
owner-none (Install name command) is = cc
owner-none (Builtin name) is = refl

none-runs : (steps : List PlanStep) → first (map command_owner steps) ≡ None
    → list_any runs_command steps ≡ false
none-runs [] is = refl
none-runs (step ∷ steps) is =
    let h = first-none (command_owner step) (map command_owner steps) is in
    ap (λ b. b || list_any runs_command steps) (owner-none step h.0) ∙ none-runs steps h.1

-- ---- the folder

-- the modules that steps load
pub record ArePlanned (held : Contents) (folder : List ℕ) (dep : KeyValues) (steps : List PlanStep)
    : Type 0 where
  pub plan : List Module
  pub of_names : AreModulesOf held folder dep (inserted_names steps) plan
  pub of_files : AreFileModules held folder (paths_of (flat_map inserted steps)) plan

module _ (held : Contents) (folder : List ℕ) (tree : List Facts) (kernel : Kernel)
    (builtin : List ℕ) (indexed : Indexed held folder tree kernel builtin) (known : Known)
    (knows : KnowsFolder held folder known) where
  abbrev dep : KeyValues
  dep = known_lines known

  nodes-are : known.indexes.dep.nodes ≡ knows.index
  nodes-are = ap (λ (x : Index). x.nodes) knows.is_index

  pub holds : Holds known.indexes.dep.nodes dep
  holds
      = subst (λ b. Holds b (contents b)) (sym nodes-are) (contents-held knows.index knows.accepted)

  unmet-there : HasFile held (path_below folder (file_name Unmet)) knows.text
  unmet-there =
      let made = files tree (kernel_of kernel) builtin in
      let same : knows.text ≡ content made Unmet =
      read-there (value []) (path_below folder (file_name Unmet))
      (get held (path_below folder (file_name Unmet))) knows.text (content made Unmet)
      indexed.made.unmet knows.text_read in
      indexed.made.unmet ∙ ap Some (sym same)

  -- what was read of the folder
  pub is-read : IsReadFolder held folder dep known.unmet
  is-read = record {
    index = knows.index;
    index_there = knows.index_there;
    index_holds
        = subst (λ b. Holds knows.index (contents b)) (sym nodes-are)
        (contents-held knows.index knows.accepted);
    text = knows.text;
    text_there = unmet-there;
    text_states = knows.states;
  }

  stands : StandsAsIndexed tree kernel dep
  stands
      = (folders-read held folder tree kernel builtin indexed).lines is-read.index dep
      is-read.index_there is-read.index_holds

  -- the module at the first path of the dependency line of a name is that of a valid file
  own-module : (name path : List ℕ) → IsOwnPath dep name path
      → (m : Module) × IsModuleOf held folder dep name m × IsFileModule held folder path m
  own-module name path own =
      let line = (lines-are-of-tree tree kernel dep stands).0 name own.value own.first in
      let f = line.owner in
      let at_path : f.path ≡ path = sym line.own ∙ own.own in
      let file = indexed.modules f line.in_tree in
      let there : HasFile held (path_below folder path) file.bytes
      = subst (λ p. HasFile held (path_below folder p) file.bytes) at_path file.there in
      let passed : fact_fault path file.bytes ≡ None
      = subst (λ p. fact_fault p file.bytes ≡ None) at_path file.passed in (
        module_at path file.bytes passed,
        record {
          path = path;
          bytes = file.bytes;
          file = record { value = own.value; first = own.first; own = own.own; there = there };
          facts = facts-at path file.bytes passed;
        },
        record {
          kind = subst (λ p. is_module_path p ≡ true) at_path file.kind;
          bytes = file.bytes;
          there = there;
          small = file.small;
          passed = passed;
          read = refl;
        },
      )

  -- so are those of steps
  pub step-modules : (steps : List PlanStep) → All (IsAtOwnPath dep) steps
      → ArePlanned held folder dep steps
  step-modules [] all = record { plan = []; of_names = tt; of_files = tt }
  step-modules (Insert name path options ∷ steps) all =
      let own
      = own-module name path (All-head (IsAtOwnPath dep) (Insert name path options) steps all)
      in
      let rest
      = step-modules steps (All-tail (IsAtOwnPath dep) (Insert name path options) steps all) in
      record {
        plan = own.0 ∷ rest.plan;
        of_names = (own.1, rest.of_names);
        of_files = (own.2, rest.of_files);
      }
  step-modules (Install name command ∷ steps) all =
      let rest = step-modules steps (All-tail (IsAtOwnPath dep) (Install name command) steps all) in
      record { plan = rest.plan; of_names = rest.of_names; of_files = rest.of_files }
  step-modules (Builtin name ∷ steps) all =
      let rest = step-modules steps (All-tail (IsAtOwnPath dep) (Builtin name) steps all) in
      record { plan = rest.plan; of_names = rest.of_names; of_files = rest.of_files }

-- ---- courses

loaded-ok : (r : Result Machine LoadFault) (machine : Machine) → r ≡ Ok machine → IsOk r
loaded-ok (Ok other) machine is = refl
loaded-ok (Err fault) machine is = cc

pub courses-bind : CoursesBind
courses-bind held inputs l as_indexed came =
    let folder = inputs.folder in
    let known = l.known in
    let steps = l.steps in
    let indexed = as_indexed.indexed in
    let knows = knows-folder held inputs.config inputs.listing folder known came.knows in
    let lines = known_lines known in
    let holding = holds held folder l.tree l.indexed l.builtin indexed known knows in
    let start = new_machine l.kernel l.region in
    let loads
    = listed-are-of-machine held folder known.indexes.dep start known.loaded l.listed
    came.listed in
    let listed = loads.listed in
    let of_listed : AreModulesOf held folder lines (reverse known.loaded) listed =
    listed-modules held folder known.indexes.dep lines holding (reverse known.loaded) loads.paths
    listed loads.found loads.files in
    let made = was-planned known inputs.request steps came.planned in
    let given' = were-given steps l.inserts came.runs_none in
    let s = sources_with known known.loaded inputs.request in
    let valued : (name : List ℕ) → is_among known.loaded name ≡ true → has_value lines name ≡ true
    = λ name in'.
    have-values held folder known.indexes.dep lines holding (reverse known.loaded) loads.paths
    loads.found name (among-reversed known.loaded name ∙ in') in
    let runs : list_any runs_command (plan_steps s inputs.request) ≡ false
    = ap (list_any runs_command) made.1 ∙ none-runs steps given'.0 in
    let closing : AreClosedSteps s steps
    = subst (AreClosedSteps s) made.1 (plans-closed s inputs.request made.0 runs valued) in
    let modules
    = step-modules held folder l.tree l.indexed l.builtin indexed known knows steps
    closing.own_paths in
    record {
      listed = listed;
      plan = modules.plan;
      listed_of = of_listed;
      plan_of = modules.of_names;
      listed_paths = loads.paths;
      listed_lines = loads.found;
      listed_files = loads.files;
      plan_files
          = subst (λ is. AreFileModules held folder (paths_of is) modules.plan) given'.1
          modules.of_files;
      listed_load = loads.loaded;
      binds =
          folders-bind held folder l.tree l.indexed l.builtin lines known.unmet indexed
          (is-read held folder l.tree l.indexed l.builtin indexed known knows) l.kernel l.region
          (reverse known.loaded) (inserted_names steps) listed modules.plan
          as_indexed.same_table of_listed modules.of_names
          (loaded-ok (load_all start listed) l.listed loads.loaded)
          (closed-reversed (lines_of_map lines) known.unmet known.loaded (inserted_names steps)
          closing.closed);
    }

-- after the listed modules the plan is refused for its place alone
pub plan-placed : (addressed : Kernel) (region : Region) (listed plan : List Module)
    (machine : Machine)
    → Binds addressed region listed plan → IsLoaded addressed region listed machine
    → IfErr (load_all machine plan) IsPlaceFault
plan-placed addressed region listed plan machine binds loaded =
    let start = new_machine addressed region in
    let after_listed : load_all start (listed ++ plan) ≡ load_all machine plan =
    load-append start listed plan ∙ ap (unless_refused (λ next. load_all next plan)) loaded in
    subst (λ r. IfErr r IsPlaceFault) after_listed binds.stopped
