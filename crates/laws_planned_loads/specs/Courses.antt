-- What the course of a modprobe that loads results in over a folder that is as depmod indexed it.
-- modprobe(8).
use Rattle.std.specs.Prelude.{◌≡◌, ℕ, Bool, true, List, ◌++◌, reverse, Option, Some, ⊤}
use Rattle.std.specs.List.{list_all}
use Rattle.outside_calls.specs.Contents.{Contents}
use Rattle.kmod_words.specs.declared.modprobe.ModprobeWords.{ModprobeWords}
use Rattle.kmod_words.specs.Modprobe.{region_asked}
use Rattle.km_course.specs.Course.{Act, Outcome, Run}
use Rattle.km_course.specs.Course.Outcome.{value, end}
use Rattle.km_course.specs.declared.end.End.TheVariants.{Refused}
use Rattle.km_course.specs.declared.refusal.Refusal.TheVariants.{LoadRefused, ParamsRefused}
use Rattle.index_format.specs.Map.{KeyValues}
use Rattle.index_read.specs.Contents.{contents}
use Rattle.module_facts.specs.declared.facts.Facts.{Facts}
use Rattle.module_facts.specs.declared.module.Module.{Module}
use Rattle.kernel_exports.specs.declared.kernel.Kernel.{Kernel}
use Rattle.provider_rel.specs.Faces.{kernel_of}
use Rattle.module_region.specs.declared.region.Region.{Region}
use Rattle.load_fault.specs.declared.fault.LoadFault.{LoadFault}
use Rattle.load_fault.specs.FaultText.{load_fault_text}
use Rattle.model_loader.specs.Machine.{Machine, new_machine}
use Rattle.param_apply.specs.declared.fault.ParamFault.{ParamFault}
use Rattle.param_apply.specs.FaultText.{param_fault_text}
use Rattle.plan_builder.specs.declared.request.Request.{Request}
use Rattle.plan_builder.specs.declared.step.PlanStep.{PlanStep}
use Rattle.laws_closed_plans.specs.Loads.{IsPlaceFault}
use Rattle.laws_closed_plans.specs.Binding.{Binds, IsLoaded}
use Rattle.laws_indexed_folder.specs.Indexed.{Indexed}
use Rattle.laws_indexed_folder.specs.Folder.{AreModulesOf}
use Rattle.laws_indexed_folder.specs.Steps.{inserted_names}
use Rattle.stages_files.specs.KernelModules.{modules_folder, path_listed}
use Rattle.stages_loads.specs.Listed.{loads_listed}
use Rattle.stages_loads.specs.declared.load.Insertion.{Insertion}
use Rattle.stages_loads.specs.declared.shown.Images.{Images}
use Rattle.stages_loads.specs.Loads.{loads_all, paths_of}
use Rattle.stages_loads.specs.Tables.{reads_machine}
use Rattle.stages_known.specs.declared.known.Known.{Known}
use Rattle.stages_known.specs.Known.{reads_known}
use Rattle.command_modprobe.specs.Planned.{plan_lines, plan_outcome, request_of}
use Rattle.command_modprobe.specs.Loaded.{images_asked, inserts_outcome, loads_plan}
use Rattle.laws_planned_loads.specs.Acts.{is_reading, said}
use Rattle.laws_planned_loads.specs.Files.{AreFileModules}
use Rattle.laws_planned_loads.specs.Listed.{AreListedPaths}
use Rattle.laws_planned_loads.specs.Loads.{WentIn, fault_of}

-- The map of the modules.dep.bin that was read.
abbrev pub known_lines : Known → KeyValues
known_lines known = contents known.indexes.dep.nodes

-- The folder is as depmod indexed it; and the kernel of the machine has the table that was indexed,
-- with addresses.
pub record IsIndexedFor (held : Contents) (folder : List ℕ) (tree : List Facts) (kernel : Kernel)
    (builtin : List ℕ) (addressed : Kernel) : Type 0 where
  pub indexed : Indexed held folder tree kernel builtin
  pub same_table : kernel_of addressed ≡ kernel_of kernel

-- What a load reads and plans:
-- - the folder of the modules;
-- - the configuration, and the list of loaded modules;
-- - the request of its plan.
pub record LoadInputs : Type 0 where
  pub folder : List ℕ
  pub config : Option (List ℕ)
  pub listing : Option (List ℕ)
  pub request : Request

-- What a modprobe reads and plans.
abbrev pub inputs_of : ModprobeWords → LoadInputs
inputs_of asked = record {
  folder = modules_folder asked.dirname asked.version;
  config = asked.config;
  listing = asked.loaded;
  request = request_of asked;
}

-- What a load is about:
-- - the modules that were indexed, over which kernel and built-in modules;
-- - that kernel with addresses, and the region;
-- - what is known of the folder and the configuration;
-- - the machine after the listed modules;
-- - the plan, and what its steps load.
pub record Loading : Type 0 where
  pub tree : List Facts
  pub indexed : Kernel
  pub builtin : List ℕ
  pub kernel : Kernel
  pub region : Region
  pub known : Known
  pub listed : Machine
  pub steps : List PlanStep
  pub inserts : List Insertion

-- A course got past its reading, over these files, and came to these loads. The request has a plan
-- without a step that runs a command.
pub record CameToLoads (held : Contents) (inputs : LoadInputs) (l : Loading) : Type 0 where
  pub knows : ((reads_known inputs.config inputs.folder inputs.listing).run held).outcome
      ≡ value l.known
  pub listed : ((loads_listed inputs.folder (path_listed l.known.indexes.dep)
      (new_machine l.kernel l.region)
      l.known.loaded).run held).outcome
      ≡ value l.listed
  pub planned : plan_outcome l.known l.known.loaded inputs.request ≡ value l.steps
  pub runs_none : inserts_outcome l.steps ≡ value l.inserts

-- what loads result in, as the end of a course
abbrev pub ended : Outcome Machine → Outcome ⊤
ended (value machine) = value tt
ended (end e) = end e

-- A course is one of loads: files are read, and the lines of the plan are printed. Then what its
-- steps load goes into the machine, and nothing more is done.
pub record IsLoadingCourse (held : Contents) (folder : List ℕ) (images : Images) (l : Loading)
    (run : Run ⊤) : Type 0 where
  pub before : List Act
  pub reads : list_all is_reading before ≡ true
  pub acts : run.acts
      ≡ before
      ++ (said (plan_lines folder l.steps)
      ++ ((loads_all folder images l.listed l.inserts).run held).acts)
  pub outcome : run.outcome ≡ ended ((loads_all folder images l.listed l.inserts).run held).outcome

-- What is asked for has a System.map and a region, and the machine of the kernel is made of these.
pub record HasMachine (held : Contents) (asked : ModprobeWords) (addressed : Kernel)
    (region : Region) : Type 0 where
  pub map : List ℕ
  pub mapped : asked.system_map ≡ Some map
  pub in_region : region_asked asked ≡ region
  pub made : ((reads_machine map asked.symvers region).run held).outcome
      ≡ value (new_machine addressed region)

-- A course that got past its reading is one of loads, over any files.
abbrev pub CoursesLoad : Type 0
CoursesLoad =
    (held : Contents) (asked : ModprobeWords) (l : Loading)
    → (has : HasMachine held asked l.kernel l.region)
    → CameToLoads held (inputs_of asked) l
    → IsLoadingCourse held (modules_folder asked.dirname asked.version) (images_asked asked) l
    ((loads_plan asked has.map).run held)

-- The loads of such a course bind.
pub record CourseBinds (held : Contents) (folder : List ℕ) (l : Loading) : Type 0 where
  -- the listed modules, oldest first, and the modules of the plan, each the module of its name
  pub listed : List Module
  pub plan : List Module
  pub listed_of : AreModulesOf held folder (known_lines l.known) (reverse l.known.loaded) listed
  pub plan_of : AreModulesOf held folder (known_lines l.known) (inserted_names l.steps) plan
  -- each is all of a valid file: a module of the plan at the path of its step, a listed one at the
  -- first path of its dependency line
  pub listed_paths : List (List ℕ)
  pub listed_lines : AreListedPaths (path_listed l.known.indexes.dep)
      (reverse l.known.loaded) listed_paths
  pub listed_files : AreFileModules held folder listed_paths listed
  pub plan_files : AreFileModules held folder (paths_of l.inserts) plan
  -- after the listed modules the machine is this
  pub listed_load : IsLoaded l.kernel l.region listed l.listed
  -- each strong need is bound to an agreeing export that comes before it, and words have the values
  -- of the ABI. The loads stop only for lack of room or for a word that doesn't fit
  pub binds : Binds l.kernel l.region listed plan

-- Take a folder that is as depmod indexed it, and the same kernel's table with addresses. Then the
-- loads of each course that got past its reading bind.
abbrev pub CoursesBind : Type 0
CoursesBind =
    (held : Contents) (inputs : LoadInputs) (l : Loading)
    → IsIndexedFor held inputs.folder l.tree l.indexed l.builtin l.kernel
    → CameToLoads held inputs l
    → CourseBinds held inputs.folder l

-- How a course of loads ended. All modules of the plan were loaded. Or one of them found no room in
-- the region, or has a word that didn't fit there. Or, with parameters, the options of one couldn't
-- be written.
pub data IsEndOfLoads (params : Bool) : Outcome ⊤ → Type 0 where
  all_loaded : IsEndOfLoads params (value tt)
  no_place : (name : List ℕ) (fault : LoadFault) → IsPlaceFault fault
      → IsEndOfLoads params (end (Refused (LoadRefused name (load_fault_text fault))))
  unwritten : (w : WentIn) (fault : ParamFault) → params ≡ true → fault_of w ≡ Some fault
      → IsEndOfLoads params
      (end (Refused (ParamsRefused w.entry.loaded.name (param_fault_text fault))))

-- So the whole course of such a modprobe ends for nothing else.
abbrev pub CoursesEnd : Type 0
CoursesEnd =
    (held : Contents) (asked : ModprobeWords) (l : Loading)
    → IsIndexedFor held (modules_folder asked.dirname asked.version) l.tree l.indexed l.builtin
    l.kernel
    → (has : HasMachine held asked l.kernel l.region)
    → CameToLoads held (inputs_of asked) l
    → IsEndOfLoads asked.params ((loads_plan asked has.map).run held).outcome
