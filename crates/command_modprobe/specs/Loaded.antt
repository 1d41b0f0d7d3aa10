-- Plans that are loaded. modprobe(8).
use Rattle.std.specs.Prelude.{ℕ, List, [], ◌∷◌, map, Option, Some, None, ⊤}
use Rattle.std.specs.List.{flat_map}
use Rattle.km_names.specs.First.{first}
use Rattle.kmod_words.specs.declared.modprobe.ModprobeWords.{ModprobeWords}
use Rattle.kmod_words.specs.Modprobe.{region_asked}
use Rattle.model_loader.specs.Machine.{Machine}
use Rattle.plan_builder.specs.declared.request.Request.{Request}
use Rattle.plan_builder.specs.declared.step.PlanStep.{PlanStep}
use Rattle.plan_builder.specs.declared.step.PlanStep.TheVariants.{Insert, Install, Builtin}
use Rattle.km_course.specs.Course.{Outcome, Stage, ◌>>=◌, given, gives, says_any, value_unless}
use Rattle.km_course.specs.declared.end.End.TheVariants.{Refused}
use Rattle.km_course.specs.declared.refusal.Refusal.TheVariants.{InstallChosen}
use Rattle.km_course.specs.declared.stop.Stop.{Stop}
use Rattle.km_course.specs.declared.stop.Stop.TheVariants.{Ended}
use Rattle.stages_files.specs.KernelModules.{modules_folder, path_listed}
use Rattle.stages_loads.specs.Listed.{loads_listed}
use Rattle.stages_loads.specs.declared.load.Insertion.{Insertion}
use Rattle.stages_loads.specs.declared.shown.Images.{Images}
use Rattle.stages_loads.specs.Loads.{loads_all}
use Rattle.stages_loads.specs.Tables.{reads_machine}
use Rattle.stages_known.specs.declared.known.Known.{Known}
use Rattle.stages_known.specs.Known.{reads_known}
use Rattle.command_modprobe.specs.Planned.{request_of, plan_outcome, plan_lines}

-- The name of the module for which a step runs a command.
abbrev pub command_owner : PlanStep → Option (List ℕ)
command_owner (Insert name path options) = None
command_owner (Install name command) = Some name
command_owner (Builtin name) = None

-- What a step has to load: the path of its module, with the options.
abbrev pub inserted : PlanStep → List Insertion
inserted (Insert name path options) = record { path = path; options = options } ∷ []
inserted (Install name command) = []
inserted (Builtin name) = []

-- how the code stops for a command that is run for the module of this name
abbrev pub install_stop : List ℕ → Stop
install_stop name = Ended (Refused (InstallChosen name))

-- What a plan that is to be loaded results in: the modules that its steps load, or the refusal of
-- the first step that runs a command.
unfoldable pub inserts_outcome : List PlanStep → Outcome (List Insertion)
inserts_outcome steps =
    value_unless InstallChosen (first (map command_owner steps)) (flat_map inserted steps)

-- What happens to the images of a load that is requested.
abbrev pub images_asked : ModprobeWords → Images
images_asked asked = record { folder = asked.image; params = asked.params }

-- The listed modules go into the machine, the lines of the plan are printed, and the modules of the
-- plan are loaded.
abbrev pub loads_steps : List ℕ → Images → Known → Machine → List PlanStep → List Insertion
    → Stage ⊤
loads_steps folder images known machine steps inserts = do
  listed ← loads_listed folder (path_listed known.indexes.dep) machine known.loaded
  said ← says_any (plan_lines folder steps)
  loaded ← loads_all folder images listed inserts
  gives tt

-- The plan of a request is made and loaded, for what is known and a machine.
abbrev pub loads_request : List ℕ → Images → Request → Known → Machine → Stage ⊤
loads_request folder images request known machine = do
  steps ← given (plan_outcome known known.loaded request)
  inserts ← given (inserts_outcome steps)
  loads_steps folder images known machine steps inserts

-- The course of `modprobe` without `-n`, `-D` and `-R`: a load into the machine of a System.map.
abbrev pub loads_plan : ModprobeWords → List ℕ → Stage ⊤
loads_plan asked system_map = do
  known ← reads_known asked.config (modules_folder asked.dirname asked.version) asked.loaded
  machine ← reads_machine system_map asked.symvers (region_asked asked)
  loads_request (modules_folder asked.dirname asked.version) (images_asked asked) (request_of asked)
      known machine
