-- Parts of the courses, once what is known was read. No public contract cites this file.
use Rattle.std.specs.Prelude.{ℕ, List, Option, ⊤}
use Rattle.kmod_words.specs.declared.modprobe.Mode.{Mode}
use Rattle.km_course.specs.Course.{Stage, ◌>>=◌, given, says_any}
use Rattle.module_region.specs.declared.region.Region.{Region}
use Rattle.plan_builder.specs.declared.request.Request.{Request}
use Rattle.stages_known.specs.declared.known.Known.{Known}
use Rattle.stages_known.specs.Named.{names_outcome}
use Rattle.stages_loads.specs.declared.shown.Images.{Images}
use Rattle.stages_loads.specs.Tables.{reads_machine}
use Rattle.command_modprobe.specs.Loaded.{loads_request}
use Rattle.command_modprobe.specs.Planned.{loaded_in, plan_lines, plan_outcome}
use Rattle.km_names.specs.Lines.{lines_text}

-- The lines of the plan of a request.
abbrev pub prints_plan : List ℕ → Request → Mode → Known → Stage ⊤
prints_plan folder request mode known = do
  steps ← given (plan_outcome known (loaded_in mode known.loaded) request)
  says_any (plan_lines folder steps)

-- A line for each name that the names of a request stand for.
abbrev pub prints_names : Request → Known → Stage ⊤
prints_names request known = do
  names ← given (names_outcome known request.use_blacklist request.names)
  says_any (lines_text names)

-- The machine is read, and the plan of a request is made and loaded.
abbrev pub loads_known : List ℕ → Images → Request → List ℕ → Option (List ℕ) → Region → Known
    → Stage ⊤
loads_known folder images request system_map symvers region known = do
  machine ← reads_machine system_map symvers region
  loads_request folder images request known machine
