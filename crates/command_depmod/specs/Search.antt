-- The search list of `depmod`, by its configuration. depmod.d(5).
use Rattle.std.specs.Prelude.{ℕ, List, Option}
use Rattle.mod_tree.specs.Search.{search_of}
use Rattle.km_course.specs.Course.{Stage, ◌>>=◌, given}
use Rattle.stages_files.specs.Configuration.{reads_configuration, stated_outcome}
use Rattle.stages_files.specs.declared.configuration.Tool.TheVariants.{Depmod}

-- The search list: all files of the configuration are read, and then they are understood, or the
-- first line that isn't refuses them.
abbrev pub reads_search : Option (List ℕ) → Stage (List (List ℕ))
reads_search config = do
  files ← reads_configuration Depmod config
  given (stated_outcome (search_of files))
