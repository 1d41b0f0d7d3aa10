-- A removal over the files that it reads. Only private contracts cite this file.
use Rattle.std.specs.Prelude.{ℕ, List, Option, ⊤}
use Rattle.module_region.specs.declared.region.Region.{Region}
use Rattle.km_course.specs.Course.{Stage, ◌>>=◌}
use Rattle.stages_known.specs.declared.known.Known.{Known}
use Rattle.stages_known.specs.Known.{reads_known}
use Rattle.stages_loads.specs.Tables.{reads_machine}
use Rattle.command_remove.specs.declared.course.Removal.{Removal}
use Rattle.command_remove.specs.declared.course.Sources.{Sources}
use Rattle.command_remove.specs.Remove.{removes_listed}

-- A removal from the machine of a System.map, after what is known was read.
abbrev pub removes_known : List ℕ → Removal → Known → List ℕ → Option (List ℕ) → Region → Stage ⊤
removes_known folder removal known system_map symvers region = do
  machine ← reads_machine system_map symvers region
  removes_listed folder removal known machine

-- A removal from the machine of the System.map of these files.
abbrev pub removes_over : List ℕ → Removal → Sources → Region → Stage ⊤
removes_over folder removal sources region = do
  known ← reads_known sources.config folder sources.loaded
  removes_known folder removal known sources.system_map sources.symvers region
