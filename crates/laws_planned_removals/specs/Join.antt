-- What a removal that follows a load finds and leaves, if its list of loaded modules has what the
-- load loaded. modprobe(8), -r; proc(5), /proc/modules.
use Rattle.std.specs.Prelude.{◌≡◌, ◌<◌, ℕ, true, false, List, ◌++◌, codes, length, reverse, Option}
use Rattle.std.specs.Prelude.{None, Ok}
use Rattle.std.specs.FinMap.{get}
use Rattle.km_names.specs.Path.{is_compressed, path_below}
use Rattle.outside_calls.specs.Contents.{Contents}
use Rattle.kmod_words.specs.declared.modprobe.ModprobeWords.{ModprobeWords}
use Rattle.km_course.specs.Course.{after}
use Rattle.km_course.specs.Course.Outcome.{value}
use Rattle.command_modprobe.specs.Loaded.{loads_plan}
use Rattle.module_facts.specs.declared.module.Module.{Module}
use Rattle.mod_tree.specs.Tree.{is_module_path}
use Rattle.name_table.specs.FirstSeen.{is_among}
use Rattle.model_loader.specs.Machine.{Machine}
use Rattle.model_unload.specs.Unload.{unload_all}
use Rattle.plan_builder.specs.declared.request.Request.{Request}
use Rattle.remove_plan.specs.Removal.{in_use, is_asked, is_used_only, left_after}
use Rattle.stages_files.specs.KernelModules.{modules_folder}
use Rattle.stages_known.specs.declared.known.Known.{Known}
use Rattle.stages_loads.specs.Loads.{paths_of}
use Rattle.laws_closed_plans.specs.Binding.{IsLoaded, names_of}
use Rattle.laws_closed_plans.specs.Loads.{load_all}
use Rattle.laws_indexed_folder.specs.Steps.{inserted_names}
use Rattle.laws_removal.specs.Back.{AreTakenBack}
use Rattle.laws_planned_loads.specs.Courses.{CameToLoads, HasMachine, Loading, inputs_of}
use Rattle.laws_planned_loads.specs.Files.{AreFileModules}
use Rattle.laws_planned_removals.specs.Courses.{CameToRemoval, removed_names}

-- A load that was done: what it was about, the modules of its plan, and the machine after these.
pub record Loaded : Type 0 where
  pub loading : Loading
  pub plan : List Module
  pub last : Machine

-- It was done in this way over these files. Each module of the plan is all of a valid file, the one
-- at the path of its step. All of them went in, one after the other.
pub record CameToLast (held : Contents) (folder : List ℕ) (l : Loaded) : Type 0 where
  pub config : Option (List ℕ)
  pub listing : Option (List ℕ)
  pub request : Request
  pub came : CameToLoads held
      (record { folder = folder; config = config; listing = listing; request = request }) l.loading
  pub files : AreFileModules held folder (paths_of l.loading.inserts) l.plan
  pub loads : load_all l.loading.listed l.plan ≡ Ok l.last

-- Each load that came past its reading did, if its course ends well, as one of status 0 does.
abbrev pub LoadsComeToLast : Type 0
LoadsComeToLast =
    (held : Contents) (asked : ModprobeWords) (l : Loading)
    → (has : HasMachine held asked l.kernel l.region)
    → CameToLoads held (inputs_of asked) l
    → ((loads_plan asked has.map).run held).outcome ≡ value tt
    → (plan : List Module) × (last : Machine)
    × CameToLast held (modules_folder asked.dirname asked.version)
    (record { loading = l; plan = plan; last = last })

-- The dependency lines of a folder are as they were, and so are its files of modules that aren't
-- compressed.
pub record FolderStays (held later : Contents) (folder : List ℕ) : Type 0 where
  pub lines : get later (path_below folder (codes "modules.dep.bin"))
      ≡ get held (path_below folder (codes "modules.dep.bin"))
  pub modules : (path : List ℕ) → is_module_path path ≡ true → is_compressed path ≡ false
      → get later (path_below folder path) ≡ get held (path_below folder path)

-- A load leaves the folder in this way, with all images that it puts.
abbrev pub LoadsLeaveFolder : Type 0
LoadsLeaveFolder =
    (held : Contents) (asked : ModprobeWords) (l : Loading)
    → (has : HasMachine held asked l.kernel l.region)
    → CameToLoads held (inputs_of asked) l
    → FolderStays held (after ((loads_plan asked has.map).run held).acts held)
    (modules_folder asked.dirname asked.version)

-- What a removal knows follows such a load. The folder is as it was for the load. The list of
-- loaded modules reads as the names of the plan, the newest first, before the load's own list.
pub record Follows (held later : Contents) (folder : List ℕ) (l : Loaded) (known : Known) : Type 0
  where
    pub stays : FolderStays held later folder
    pub list : known.loaded ≡ reverse (inserted_names l.loading.steps) ++ l.loading.known.loaded

-- These names are asked for, and no others.
abbrev pub AreAskedFor : List (List ℕ) → List (List ℕ) → Type 0
AreAskedFor names asked = (name : List ℕ) → is_among names name ≡ is_among asked name

-- What such a removal finds and leaves, if its names stand for these modules.
pub record MeetsLoad (l : Loaded) (machine : Machine) (names : List (List ℕ)) : Type 0 where
  -- the machine that it takes modules out of is the last one of the load
  pub same : machine ≡ l.last
  -- it is the machine of the load's own listed modules and then the modules of the plan, which have
  -- the names of its steps
  pub older : List Module
  pub older_load : IsLoaded l.loading.kernel l.loading.region older l.loading.listed
  pub all_load : IsLoaded l.loading.kernel l.loading.region (older ++ l.plan) machine
  pub plan_names : names_of l.plan ≡ inserted_names l.loading.steps
  -- the modules of the plan, taken out the newest first, leave the machine from before the plan,
  -- and none is refused
  pub unloaded : unload_all machine (reverse (inserted_names l.loading.steps)) ≡ Ok l.loading.listed
  -- if the removed ones are the modules of the plan, the machine from before the plan is left, and
  -- it is sound
  pub back : in_use machine (is_asked machine names) ≡ None
      → removed_names machine names ≡ reverse (inserted_names l.loading.steps)
      → (left_after machine names ≡ l.loading.listed)
      × AreTakenBack l.loading.kernel l.loading.region older l.plan machine names
  -- if just what the plan loaded is asked for, none of it is in use. The removed ones are then the
  -- modules of the plan, unless only they use one of the load's own listed modules, which then goes
  -- with them
  pub free : AreAskedFor names (inserted_names l.loading.steps)
      → in_use machine (is_asked machine names) ≡ None
  pub exact : AreAskedFor names (inserted_names l.loading.steps)
      → ((j : ℕ) → j < length l.loading.listed.entries
      → is_used_only machine (is_asked machine names) j ≡ false)
      → removed_names machine names ≡ reverse (inserted_names l.loading.steps)

-- A removal that follows a load takes modules out of the load's last machine, and what the plan
-- loaded is taken back.
abbrev pub RemovalMeetsLoad : Type 0
RemovalMeetsLoad =
    (held later : Contents) (asked : ModprobeWords) (l : Loaded) (known : Known) (machine : Machine)
    (names : List (List ℕ))
    → CameToLast held (modules_folder asked.dirname asked.version) l
    → Follows held later (modules_folder asked.dirname asked.version) l known
    → CameToRemoval later asked
    (record {
      kernel = l.loading.kernel;
      region = l.loading.region;
      known = known;
      listed = machine;
      names = names;
    })
    → MeetsLoad l machine names
