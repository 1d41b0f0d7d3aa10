-- What `modprobe` reads before it looks a name up, in the order in which it reads. modprobe(8),
-- modules.dep(5).
use Rattle.std.specs.Prelude.{ℕ, List, [], ◌∷◌, ◌++◌, codes, Option, Some, None}
use Rattle.km_names.specs.Path.{path_below}
use Rattle.index_read.specs.declared.index.Index.{Index}
use Rattle.loaded_list.specs.Loaded.{loaded_of}
use Rattle.modprobe_conf.specs.declared.rule.Rule.{Rule}
use Rattle.modprobe_conf.specs.Rules.{rules_of}
use Rattle.name_lookup.specs.declared.indexes.Indexes.{Indexes}
use Rattle.symbol_binding.specs.declared.unbound.Unbound.{Unbound}
use Rattle.unmet_file.specs.Unmet.{unmet_of}
use Rattle.km_course.specs.Course.{Stage, ◌>>=◌, given, gives, reads, reads_any}
use Rattle.stages_files.specs.declared.configuration.Tool.TheVariants.{Modprobe}
use Rattle.stages_files.specs.Configuration.{reads_configuration, stated_outcome}
use Rattle.stages_files.specs.IndexFile.{reads_index}
use Rattle.stages_known.specs.declared.known.Known.{Known}

-- The index in the file of this name in a folder.
abbrev pub reads_index_in : List ℕ → List ℕ → Stage Index
reads_index_in folder name = reads_index (path_below folder name)

-- The four index files of a folder, each checked before the next is read.
abbrev pub reads_indexes : List ℕ → Stage Indexes
reads_indexes folder = do
  dep ← reads_index_in folder (codes "modules.dep.bin")
  alias ← reads_index_in folder (codes "modules.alias.bin")
  symbols ← reads_index_in folder (codes "modules.symbols.bin")
  builtin ← reads_index_in folder (codes "modules.builtin.bin")
  gives (record { dep = dep; alias = alias; symbols = symbols; builtin = builtin })

-- The rules that the configuration states, and then those of the folder's modules.softdep, which is
-- empty if it is missing.
abbrev pub reads_rules : List Rule → List ℕ → Stage (List Rule)
reads_rules stated folder = do
  bytes ← reads_any (path_below folder (codes "modules.softdep"))
  more ← given (stated_outcome
      (rules_of
      (record { path = path_below folder (codes "modules.softdep"); bytes = bytes } ∷ [])))
  gives (stated ++ more)

-- The lines of the folder's modules.unmet, which is empty if there is none.
abbrev pub reads_unmet : List ℕ → Stage (List Unbound)
reads_unmet folder = do
  bytes ← reads_any (path_below folder (codes "modules.unmet"))
  given (stated_outcome (unmet_of (path_below folder (codes "modules.unmet")) bytes))

-- The loaded modules that the file at a path lists, or none without a path.
abbrev pub reads_loaded : Option (List ℕ) → Stage (List (List ℕ))
reads_loaded None = gives []
reads_loaded (Some path) = do
  bytes ← reads path
  gives (loaded_of bytes)

-- What is read after the configuration and the index files.
abbrev pub reads_lists : List Rule → List ℕ → Indexes → Option (List ℕ) → Stage Known
reads_lists stated folder indexes path = do
  rules ← reads_rules stated folder
  unmet ← reads_unmet folder
  loaded ← reads_loaded path
  gives (record { rules = rules; indexes = indexes; unmet = unmet; loaded = loaded })

-- The configuration is read and understood, and then the other files are read, each understood
-- before the next.
abbrev pub reads_known : Option (List ℕ) → List ℕ → Option (List ℕ) → Stage Known
reads_known config folder path = do
  configuration ← reads_configuration Modprobe config
  stated ← given (stated_outcome (rules_of configuration))
  indexes ← reads_indexes folder
  reads_lists stated folder indexes path
