-- The modules of a kernel: their folder, and the path of a name. modules.dep(5), modprobe(8).
use Rattle.std.specs.Prelude.{ℕ, List, codes, Option, Some, None, option_and_then}
use Rattle.index_read.specs.declared.index.Index.{Index}
use Rattle.km_names.specs.Path.{path_below}
use Rattle.mod_tree.specs.DependencyLine.{line_path}
use Rattle.km_course.specs.Course.{Outcome, Stage, ◌>>=◌, gives}
use Rattle.km_course.specs.Course.Outcome.{value, end}
use Rattle.km_course.specs.declared.end.End.TheVariants.{Refused}
use Rattle.km_course.specs.declared.refusal.Refusal.TheVariants.{NotFound}
use Rattle.stages_files.specs.declared.kernel_modules.KernelModules.{KernelModules}
use Rattle.stages_files.specs.IndexFile.{first_text, reads_index}

-- The folder of the modules of a kernel of this version, below a root.
abbrev pub modules_folder : List ℕ → List ℕ → List ℕ
modules_folder root version = path_below (path_below root (codes "lib/modules")) version

-- The modules in a folder, by its modules.dep.bin.
abbrev pub reads_modules : List ℕ → Stage KernelModules
reads_modules folder = do
  index ← reads_index (path_below folder (codes "modules.dep.bin"))
  gives (record { folder = folder; index = index })

-- The path of the module of this name, below the folder: the first one of its dependency line. It
-- is None if the name has no value, or its value is no dependency line.
abbrev pub path_listed : Index → List ℕ → Option (List ℕ)
path_listed index name = option_and_then line_path (first_text index.nodes name)

-- The outcome of this path in the folder. If there is none, the name is not found.
abbrev pub found_outcome : List ℕ → List ℕ → Option (List ℕ) → Outcome (List ℕ)
found_outcome folder name None = end (Refused (NotFound name))
found_outcome folder name (Some path) = value (path_below folder path)

-- The whole path of the module of this name.
abbrev pub path_outcome : KernelModules → List ℕ → Outcome (List ℕ)
path_outcome modules name = found_outcome modules.folder name (path_listed modules.index name)
