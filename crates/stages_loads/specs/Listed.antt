-- The modules that are listed as loaded. They are loaded before any other, the oldest first, and
-- nothing is printed of them. modprobe(8), proc(5).
use Rattle.std.specs.Prelude.{ℕ, List, reverse, Option, Some, None}
use Rattle.model_loader.specs.Machine.{Machine}
use Rattle.km_course.specs.Course.{Outcome, Stage, ◌>>=◌, given, each_from}
use Rattle.km_course.specs.Course.Outcome.{value, end}
use Rattle.km_course.specs.declared.end.End.TheVariants.{Refused}
use Rattle.km_course.specs.declared.refusal.Refusal.TheVariants.{ListedNotFound}
use Rattle.stages_loads.specs.declared.load.Cause.TheVariants.{Listed}
use Rattle.stages_loads.specs.Loads.{loads}
use Rattle.stages_loads.specs.Modules.{reads_module}

-- what a listed name with this path results in; if there is none, it isn't found
abbrev pub listed_outcome : List ℕ → Option (List ℕ) → Outcome (List ℕ)
listed_outcome name None = end (Refused (ListedNotFound name))
listed_outcome name (Some path) = value path

-- The listed module of a name that has this path, if it has one, is read, and goes into the
-- machine.
abbrev pub loads_listed_at : List ℕ → Machine → List ℕ → Option (List ℕ) → Stage Machine
loads_listed_at folder machine name found = do
  path ← given (listed_outcome name found)
  m ← reads_module folder path
  loads Listed machine m

-- The listed module of a name is looked up, read, and goes into the machine. `found` gives the path
-- of the module of a name, if there is one.
abbrev pub loads_listed_one : List ℕ → (List ℕ → Option (List ℕ)) → Machine → List ℕ
    → Stage Machine
loads_listed_one folder found machine name = loads_listed_at folder machine name (found name)

-- The listed modules, the oldest first; the list has the newest first.
abbrev pub loads_listed : List ℕ → (List ℕ → Option (List ℕ)) → Machine → List (List ℕ)
    → Stage Machine
loads_listed folder found machine names =
    each_from (loads_listed_one folder found) machine (reverse names)
