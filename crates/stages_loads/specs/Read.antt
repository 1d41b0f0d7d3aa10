-- What follows once a module's path or file is known. Only the contracts of private functions cite
-- this file. modprobe(8).
use Rattle.std.specs.Prelude.{ℕ, List}
use Rattle.module_facts.specs.declared.module.Module.{Module}
use Rattle.model_loader.specs.Machine.{Machine}
use Rattle.km_course.specs.Course.{Stage, ◌>>=◌, gives}
use Rattle.stages_loads.specs.declared.load.Cause.TheVariants.{Listed, Planned}
use Rattle.stages_loads.specs.declared.shown.Images.{Images}
use Rattle.stages_loads.specs.Loads.{entered, loads, shows_load}
use Rattle.stages_loads.specs.Modules.{reads_module}

-- A module of a plan that was read goes into the machine, and its images are shown. The stage gives
-- the machine after it.
abbrev pub loads_read : Images → List ℕ → Machine → Module → Stage Machine
loads_read images options machine m = do
  after ← loads Planned machine m
  shown ← shows_load images m options (entered machine m)
  gives after

-- The listed module at a path in the folder is read, and goes into the machine.
abbrev pub loads_listed_file : List ℕ → Machine → List ℕ → Stage Machine
loads_listed_file folder machine path = do
  m ← reads_module folder path
  loads Listed machine m
