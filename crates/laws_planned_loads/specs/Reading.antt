-- What modprobe reads of a folder that is as depmod indexed it. modprobe(8), modules.dep(5).
use Rattle.std.specs.Prelude.{◌≡◌, ℕ, List, ◌++◌, map, codes, flat_map, Option, Some, Ok, Err, ⊤}
use Rattle.km_names.specs.Path.{underscored}
use Rattle.km_names.specs.Space.{words}
use Rattle.km_names.specs.declared.conf.ConfFile.{ConfFile}
use Rattle.outside_calls.specs.Contents.{Contents}
use Rattle.kmod_words.specs.declared.modprobe.ModprobeWords.{ModprobeWords}
use Rattle.km_course.specs.Course.{Outcome}
use Rattle.km_course.specs.Course.Outcome.{value, end}
use Rattle.km_course.specs.declared.end.End.{End}
use Rattle.km_course.specs.declared.end.End.TheVariants.{Refused}
use Rattle.km_course.specs.declared.refusal.Refusal.TheVariants.{Obstacle as Unplanned, BadIndex}
use Rattle.km_course.specs.declared.refusal.Refusal.TheVariants.{BadLine}
use Rattle.plan_builder.specs.Obstacles.{bad_dep_line}
use Rattle.plan_builder.specs.Text.{plan_text}
use Rattle.modprobe_conf.specs.declared.rule.Rule.{Rule}
use Rattle.modprobe_conf.specs.declared.rule.Rule.TheVariants as rules
use Rattle.modprobe_conf.specs.Rules.{rules_of, words_after}
use Rattle.module_facts.specs.declared.facts.Facts.{Facts}
use Rattle.symbol_binding.specs.Unmet.{unmet}
use Rattle.kernel_exports.specs.declared.kernel.Kernel.{Kernel}
use Rattle.provider_rel.specs.Faces.{modules_of, kernel_of}
use Rattle.stated_texts.specs.Stated.{softdeps_of}
use Rattle.depmod_core.specs.declared.files.OutputFiles.{OutputFiles}
use Rattle.depmod_core.specs.Files.{StandFor, files}
use Rattle.name_lookup.specs.declared.indexes.Indexes.{Indexes}
use Rattle.laws_indexed_folder.specs.Indexed.{Indexed}
use Rattle.stages_files.specs.Configuration.{reads_configuration, stated_outcome}
use Rattle.stages_files.specs.declared.configuration.Tool.TheVariants.{Modprobe}
use Rattle.stages_files.specs.IndexFile.{index_of}
use Rattle.stages_files.specs.KernelModules.{modules_folder}
use Rattle.stages_known.specs.declared.known.Known.{Known}
use Rattle.stages_known.specs.Known.{reads_indexes, reads_known, reads_loaded, reads_rules}
use Rattle.stages_known.specs.Known.{reads_unmet}
use Rattle.command_modprobe.specs.Modprobe.{modprobe_in_mode}

-- The indexes in files of depmod's.
abbrev pub indexes_of : OutputFiles → Indexes
indexes_of made = record {
  dep = index_of made.dep_bin;
  alias = index_of made.alias_bin;
  symbols = index_of made.symbols_bin;
  builtin = index_of made.builtin_bin;
}

-- The rule that a text of soft dependencies states of the module of a name: the names after each
-- `pre:` and after each `post:`.
abbrev pub softdep_of : List ℕ → List ℕ → Rule
softdep_of name text =
    rules.Softdep (underscored name) (map underscored (words_after (codes "pre:") (words text)))
    (map underscored (words_after (codes "post:") (words text)))

-- The rules of the soft dependencies of a tree that can be used.
abbrev pub softdep_rules : List Facts → List Rule
softdep_rules tree = flat_map (λ (f : Facts). map (softdep_of f.name) (softdeps_of f)) tree

-- What is read of the folder of a tree:
-- - its indexes, which stand for the maps of the tree;
-- - the rules of a configuration, followed by the rules of the tree's soft dependencies;
-- - the lines of modules.unmet.
pub record IsFolderRead (held : Contents) (folder : List ℕ) (tree : List Facts) (kernel : Kernel)
    (builtin : List ℕ) : Type 0 where
  pub indexes : ((reads_indexes folder).run held).outcome
      ≡ value (indexes_of (files tree (kernel_of kernel) builtin))
  pub stand : StandFor tree (kernel_of kernel) builtin (files tree (kernel_of kernel) builtin)
  pub softdep : (stated : List Rule)
      → ((reads_rules stated folder).run held).outcome ≡ value (stated ++ softdep_rules tree)
  pub unmet : ((reads_unmet folder).run held).outcome
      ≡ value (unmet (modules_of tree) (kernel_of kernel))

-- A folder that is as depmod indexed it is read in this way: none of its files is refused.
abbrev pub FoldersAreRead : Type 0
FoldersAreRead =
    (held : Contents) (folder : List ℕ) (tree : List Facts) (kernel : Kernel) (builtin : List ℕ)
    → Indexed held folder tree kernel builtin
    → IsFolderRead held folder tree kernel builtin

-- What is known of a tree, if the configuration states these rules and these modules are loaded.
abbrev pub known_of : List Facts → Kernel → List ℕ → List Rule → List (List ℕ) → Known
known_of tree kernel builtin stated loaded = record {
  rules = stated ++ softdep_rules tree;
  indexes = indexes_of (files tree (kernel_of kernel) builtin);
  unmet = unmet (modules_of tree) (kernel_of kernel);
  loaded = loaded;
}

-- What the reading before a lookup results in: an end for the configuration or for the list of
-- loaded modules, or what is known of the tree.
pub data IsReading (held : Contents) (config listing : Option (List ℕ)) (tree : List Facts)
    (kernel : Kernel) (builtin : List ℕ) : Outcome Known
    → Type 0 where
  no_configuration : (e : End) → ((reads_configuration Modprobe config).run held).outcome ≡ end e
      → IsReading held config listing tree kernel builtin (end e)
  bad_configuration : (configuration : List ConfFile) (e : End)
      → ((reads_configuration Modprobe config).run held).outcome ≡ value configuration
      → stated_outcome (rules_of configuration) ≡ end e
      → IsReading held config listing tree kernel builtin (end e)
  no_list : (e : End) → ((reads_loaded listing).run held).outcome ≡ end e
      → IsReading held config listing tree kernel builtin (end e)
  is_known : (configuration : List ConfFile) (stated : List Rule) (loaded : List (List ℕ))
      → ((reads_configuration Modprobe config).run held).outcome ≡ value configuration
      → rules_of configuration ≡ Ok stated
      → ((reads_loaded listing).run held).outcome ≡ value loaded
      → IsReading held config listing tree kernel builtin
      (value (known_of tree kernel builtin stated loaded))

-- Over a folder that is as depmod indexed it, that is all that the reading results in.
abbrev pub ReadingsEnd : Type 0
ReadingsEnd =
    (held : Contents) (folder : List ℕ) (tree : List Facts) (kernel : Kernel) (builtin : List ℕ)
    → Indexed held folder tree kernel builtin
    → (config listing : Option (List ℕ))
    → IsReading held config listing tree kernel builtin
    ((reads_known config folder listing).run held).outcome

-- A line that isn't understood is one of the configuration, or of the System.map or the
-- Module.symvers that was named.
pub data IsOtherLine (held : Contents) (asked : ModprobeWords) (file : List ℕ) (number : ℕ) : Type 0
  where
    of_configuration : (configuration : List ConfFile)
        → ((reads_configuration Modprobe asked.config).run held).outcome ≡ value configuration
        → rules_of configuration ≡ Err (record { file = file; number = number })
        → IsOtherLine held asked file number
    of_map : asked.system_map ≡ Some file → IsOtherLine held asked file number
    of_symvers : asked.symvers ≡ Some file → IsOtherLine held asked file number

-- An end is for no file that depmod wrote: it is for no index and for no dependency line, and a
-- line that isn't understood is another's.
abbrev pub IsOtherEnd : Contents → ModprobeWords → End → Type 0
IsOtherEnd held asked (Refused (BadIndex file text)) = ⊥
IsOtherEnd held asked (Refused (Unplanned text)) =
    (name : List ℕ) → text ≡ plan_text (bad_dep_line name) → ⊥
IsOtherEnd held asked (Refused (BadLine file number)) = IsOtherLine held asked file number
IsOtherEnd held asked _ = ⊤

-- So ends the whole course of a modprobe over such a folder, in the mode that is asked for, if it
-- ends before its last act.
abbrev pub CoursesPass : Type 0
CoursesPass =
    (held : Contents) (asked : ModprobeWords) (tree : List Facts) (kernel : Kernel)
    (builtin : List ℕ)
    → Indexed held (modules_folder asked.dirname asked.version) tree kernel builtin
    → (e : End)
    → ((modprobe_in_mode asked.mode asked asked.fits).run held).outcome ≡ end e
    → IsOtherEnd held asked e
