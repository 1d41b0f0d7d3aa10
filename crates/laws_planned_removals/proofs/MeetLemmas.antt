-- A removal that follows a load finds the load's last machine, and takes back what was loaded.
use Rattle.std.proofs.Common.{◌≡◌, ◌∙◌, ℕ, List, ◌++◌, reverse, flat_map, sym, ap, subst}
use Rattle.std.specs.Prelude.{codes, Option, Some, None, Result, Ok, All}
use Rattle.std.specs.FinMap.{get}
use Rattle.std.proofs.lemmas.List.{reverse-append, reverse-reverse}
use Rattle.command_remove.specs.Listed.{well_formed_path}
use Rattle.km_names.specs.First.{first}
use Rattle.km_names.specs.Path.{path_below}
use Rattle.outside_calls.specs.Contents.{Contents}
use Rattle.kmod_words.specs.declared.modprobe.ModprobeWords.{ModprobeWords}
use Rattle.km_course.specs.Course.Outcome.{value}
use Rattle.index_format.specs.Holds.{Holds}
use Rattle.index_read.specs.declared.index.Index.{Index}
use Rattle.index_read.specs.Contents.{contents}
use Rattle.index_read.proofs.ContentsLemmas.{held as contents-held}
use Rattle.module_facts.specs.declared.module.Module.{Module}
use Rattle.name_table.specs.FirstSeen.{is_among}
use Rattle.kernel_exports.specs.declared.kernel.Kernel.{Kernel}
use Rattle.load_fault.specs.declared.fault.LoadFault.{LoadFault}
use Rattle.module_region.specs.declared.region.Region.{Region}
use Rattle.model_loader.specs.Machine.{Machine, new_machine}
use Rattle.model_unload.specs.Unload.{unload_all}
use Rattle.plan_builder.specs.declared.request.Request.{Request}
use Rattle.plan_builder.specs.declared.step.PlanStep.{PlanStep}
use Rattle.plan_builder.specs.Closed.{IsAtOwnPath}
use Rattle.dependency_lines.specs.Modules.{bad_name}
use Rattle.plan_builder.proofs.ClosedLemmas.{plans-are-closed}
use Rattle.plan_builder.proofs.PlanTests.{sound-lines}
use Rattle.remove_plan.specs.Removal.{left_after}
use Rattle.stages_files.specs.KernelModules.{modules_folder}
use Rattle.stages_known.specs.declared.known.Known.{Known}
use Rattle.stages_loads.specs.Loads.{paths_of}
use Rattle.command_modprobe.specs.Loaded.{inserted}
use Rattle.command_modprobe.specs.Planned.{plan_outcome, sources_with}
use Rattle.laws_closed_plans.specs.Binding.{IsLoaded, names_of}
use Rattle.laws_closed_plans.specs.Loads.{load_all, unless_refused}
use Rattle.laws_closed_plans.proofs.BindingLemmas.{loads-bind}
use Rattle.laws_closed_plans.proofs.LoadLemmas.{load-append}
use Rattle.laws_indexed_folder.specs.Steps.{inserted_names}
use Rattle.laws_removal.proofs.BackLemmas.{removals-take-back}
use Rattle.laws_removal.proofs.LoadLemmas.{loads-unloaded}
use Rattle.laws_planned_loads.specs.Files.{AreFileModules}
use Rattle.laws_planned_loads.proofs.KnownLemmas.{KnowsFolder, knows-folder}
use Rattle.laws_planned_removals.specs.Courses.{CameToRemoval}
use Rattle.laws_planned_removals.specs.Join.{CameToLast, Follows, Loaded, MeetsLoad}
use Rattle.laws_planned_removals.specs.Join.{RemovalMeetsLoad}
use Rattle.laws_planned_loads.specs.Listed.{AreListedPaths}
use Rattle.laws_planned_removals.proofs.JoinLemmas.{files-append, files-one, files-stay}
use Rattle.laws_planned_removals.proofs.JoinLemmas.{formed-append, formed-moved, formed-one}
use Rattle.laws_planned_removals.proofs.JoinLemmas.{listed-alike, steps-formed, steps-named}
use Rattle.laws_planned_removals.proofs.AskedLemmas.{newer-free, newer-removed}
use Rattle.laws_planned_removals.proofs.ListedLemmas.{listed-are-taken}
use Rattle.laws_planned_loads.proofs.CourseLemmas.{was-planned, were-given}

-- ---- the plan of a load

-- no value of its modules.dep.bin is bad, and each step is at the first path of a dependency line
pub well-planned : (known : Known) (request : Request) (steps : List PlanStep)
    → plan_outcome known known.loaded request ≡ value steps
    → (bad_name (contents known.indexes.dep.nodes) ≡ None)
    × All (IsAtOwnPath (contents known.indexes.dep.nodes)) steps
well-planned known request steps is =
    let s = sources_with known known.loaded request in
    let made = was-planned known request steps is in (
      (sound-lines s request made.0).0,
      subst (All (IsAtOwnPath (contents known.indexes.dep.nodes))) made.1
          (plans-are-closed s request made.0).paths,
    )

-- ---- what was read of a folder

index-holds : (held : Contents) (folder : List ℕ) (known : Known) → KnowsFolder held folder known
    → Holds known.indexes.dep.nodes (contents known.indexes.dep.nodes)
index-holds held folder known knows =
    let same : known.indexes.dep.nodes ≡ knows.index = ap (λ (x : Index). x.nodes) knows.is_index in
    subst (λ b. Holds b (contents b)) (sym same) (contents-held knows.index knows.accepted)

same-index : (held later : Contents) (folder : List ℕ) (known known' : Known)
    (a : KnowsFolder held folder known) (b : KnowsFolder later folder known')
    → get later (path_below folder (codes "modules.dep.bin"))
    ≡ get held (path_below folder (codes "modules.dep.bin"))
    → known'.indexes.dep ≡ known.indexes.dep
same-index held later folder known known' a b lines =
    let both : ◌≡◌ {A = Option (List ℕ)} (Some b.index) (Some a.index)
    = sym b.index_there ∙ lines ∙ a.index_there in
    let same : b.index ≡ a.index = cc in
    b.is_index ∙ ap (λ nodes. record { nodes = nodes }) same ∙ sym a.is_index

-- ---- a removal after a load

module _ (held later : Contents) (asked : ModprobeWords) (l : Loaded) (known : Known)
    (machine : Machine) (names : List (List ℕ)) where
  abbrev kernel : Kernel
  kernel = l.loading.kernel

  abbrev region : Region
  region = l.loading.region

  abbrev folder : List ℕ
  folder = modules_folder asked.dirname asked.version

  abbrev start : Machine
  start = new_machine kernel region

  pub meets-load : CameToLast held folder l → Follows held later folder l known
      → CameToRemoval later asked
      (record
      { kernel = kernel; region = region; known = known; listed = machine; names = names })
      → MeetsLoad l machine names
  meets-load load follows came =
      let knows
      = knows-folder held load.config load.listing folder l.loading.known load.came.knows in
      let knows' = knows-folder later asked.config asked.loaded folder known came.knows in
      let index
      = same-index held later folder l.loading.known known knows knows' follows.stays.lines in
      let holds = index-holds held folder l.loading.known knows in
      let plan = well-planned l.loading.known load.request l.loading.steps load.came.planned in
      let inserts : flat_map inserted l.loading.steps ≡ l.loading.inserts
      = (were-given l.loading.steps l.loading.inserts load.came.runs_none).1 in
      let plan_files : AreFileModules held folder (paths_of (flat_map inserted l.loading.steps))
      l.plan
      =
      subst (λ is. AreFileModules held folder (paths_of is) l.plan) (sym inserts) load.files in
      let named : names_of l.plan ≡ inserted_names l.loading.steps
      = steps-named held folder (contents l.loading.known.indexes.dep.nodes) l.loading.steps
      l.plan plan.1 plan_files in
      let first =
      listed-are-taken held folder l.loading.known.indexes start l.loading.known.loaded
      l.loading.listed
      (ap (λ stage. (stage.run held).outcome)
      (listed-alike held folder l.loading.known.indexes holds plan.0 start
      l.loading.known.loaded)
      ∙ load.came.listed) in
      let older : List Module = first.modules in
      let paths : List (List ℕ) = first.paths ++ paths_of (flat_map inserted l.loading.steps) in
      let whole : AreFileModules later folder paths (older ++ l.plan) =
      files-stay held later folder follows.stays.modules paths (older ++ l.plan)
      (files-append held folder first.paths (paths_of (flat_map inserted l.loading.steps)) older
      l.plan first.files plan_files) in
      let all_names : reverse known.loaded
      ≡ reverse l.loading.known.loaded ++ inserted_names l.loading.steps
      =
      ap reverse follows.list
      ∙ reverse-append (reverse (inserted_names l.loading.steps)) l.loading.known.loaded
      ∙ ap (λ ns. reverse l.loading.known.loaded ++ ns)
      (reverse-reverse (inserted_names l.loading.steps)) in
      let formed : AreListedPaths (well_formed_path known.indexes) (reverse known.loaded) paths =
      subst (λ ns. AreListedPaths (well_formed_path known.indexes) ns paths) (sym all_names)
      (formed-moved l.loading.known.indexes known.indexes
      (reverse l.loading.known.loaded ++ inserted_names l.loading.steps) paths index
      (formed-append l.loading.known.indexes (reverse l.loading.known.loaded)
      (inserted_names l.loading.steps) first.paths
      (paths_of (flat_map inserted l.loading.steps))
      first.found
      (steps-formed held folder l.loading.known.indexes holds plan.0 l.loading.steps plan.1))) in
      let taken
      = listed-are-taken later folder known.indexes start known.loaded machine came.listed in
      let taken_paths : taken.paths ≡ paths
      = formed-one known.indexes (reverse known.loaded) taken.paths paths taken.found formed in
      let taken_modules : taken.modules ≡ older ++ l.plan =
      files-one later folder paths taken.modules (older ++ l.plan)
      (subst (λ ps. AreFileModules later folder ps taken.modules) taken_paths taken.files) whole
      in
      let all_load : IsLoaded kernel region (older ++ l.plan) machine
      = ap (load_all start) (sym taken_modules) ∙ taken.loaded in
      let to_last : load_all start (older ++ l.plan) ≡ Ok l.last =
      load-append start older l.plan
      ∙ ap (unless_refused (λ next. load_all next l.plan)) first.loaded ∙ load.loads in
      let both : ◌≡◌ {A = Result Machine LoadFault} (Ok machine) (Ok l.last)
      = sym all_load ∙ to_last in
      let same : machine ≡ l.last = cc in
      let plan_load : load_all l.loading.listed l.plan ≡ Ok machine
      = load.loads ∙ ap Ok (sym same) in
      let sound = loads-bind kernel region (older ++ l.plan) machine all_load in
      record {
        same = same;
        older = older;
        older_load = first.loaded;
        all_load = all_load;
        plan_names = named;
        unloaded
            = ap (λ ns. unload_all machine (reverse ns)) (sym named)
            ∙ loads-unloaded l.loading.listed machine l.plan plan_load sound.names;
        back = λ free removed.
            let taken_back
            = removals-take-back kernel region older l.plan machine names all_load free
            (removed ∙ ap reverse (sym named)) in (
              one-machine (left_after machine names) l.loading.listed (load_all start older)
                  taken_back.loaded first.loaded,
              taken_back,
            );
        free
            = λ asks. newer-free l.loading.listed machine l.plan plan_load sound.names names
            (λ name. asks name ∙ ap (λ ns. is_among ns name) (sym named));
        exact = λ asks alone.
            newer-removed l.loading.listed machine l.plan plan_load sound.names names
            (λ name. asks name ∙ ap (λ ns. is_among ns name) (sym named)) alone
            ∙ ap reverse named;
      }
    where
      one-machine : (a b : Machine) (r : Result Machine LoadFault) → r ≡ Ok a → r ≡ Ok b → a ≡ b
      one-machine a b r is other =
          let both : ◌≡◌ {A = Result Machine LoadFault} (Ok a) (Ok b) = sym is ∙ other in
          cc

pub removal-meets-load : RemovalMeetsLoad
removal-meets-load held later asked l known machine names load follows came =
    meets-load held later asked l known machine names load follows came
