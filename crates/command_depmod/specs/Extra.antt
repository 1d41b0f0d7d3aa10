-- The two files of `depmod --extra`: the index of the aliases of built-in modules, and the device
-- nodes of modules. The option is this project's own; kmod's depmod always makes both.
use Rattle.std.specs.Prelude.{ℕ, nat_lt, Bool, List, [], ◌∷◌, length, codes, Option, Some, None}
use Rattle.std.specs.Prelude.{option_map}
use Rattle.km_names.specs.First.{first}
use Rattle.km_names.specs.Limit.{file_limit}
use Rattle.km_names.specs.Path.{path_below}
use Rattle.elf_sections.specs.Shape.{fault_if}
use Rattle.index_format.specs.File.{file}
use Rattle.module_facts.specs.declared.facts.Facts.{Facts}
use Rattle.builtin_index.specs.Aliases.{alias_map}
use Rattle.devname_nodes.specs.File.{nodes_text}
use Rattle.devname_nodes.specs.Nodes.{nodes_of}
use Rattle.km_course.specs.Course.{Outcome, Stage, ◌>>=◌, gives, reads_any, when◌then◌else◌}
use Rattle.km_course.specs.declared.end.End.TheVariants.{Refused}
use Rattle.km_course.specs.declared.refusal.Refusal.{Refusal}
use Rattle.km_course.specs.declared.refusal.Refusal.TheVariants.{OutputTooLarge}
use Rattle.km_course.specs.declared.stop.Stop.{Stop}
use Rattle.km_course.specs.declared.stop.Stop.TheVariants.{Ended}
use Rattle.command_depmod.specs.declared.files.DepmodFile.{DepmodFile}
use Rattle.command_depmod.specs.declared.files.DepmodFile.TheVariants.{BuiltinAliasBin, Devname}
use Rattle.command_depmod.specs.declared.files.ExtraFiles.{ExtraFiles}
use Rattle.command_depmod.specs.Files.{file_name}
use Rattle.km_course.specs.Course.{value_unless}

-- The modules.builtin.modinfo in a folder, if it is asked for. It counts as empty if it is missing.
abbrev pub reads_info : Bool → List ℕ → Stage (Option (List ℕ))
reads_info extra folder =
    when extra then (do
      bytes ← reads_any (path_below folder (codes "modules.builtin.modinfo"))
      gives (Some bytes)) else gives None

-- The two files, by the modules of a tree and by what modules.builtin.modinfo has.
abbrev pub extra_files : List Facts → List ℕ → ExtraFiles
extra_files tree info =
    record { builtin_alias_bin = file (alias_map info); devname = nodes_text (nodes_of tree) }

-- The refusal of a file of this many bytes, by its bare name: it is too large.
abbrev pub size_refusal : DepmodFile → List ℕ → Option Refusal
size_refusal which bytes =
    fault_if (nat_lt file_limit (length bytes)) (OutputTooLarge (file_name which))

-- The two files, if modules.builtin.modinfo was read.
abbrev pub extra_made : List Facts → Option (List ℕ) → Option ExtraFiles
extra_made tree info = option_map (extra_files tree) info

-- The refusal of the first of them that is too large.
abbrev pub extra_refusal : Option ExtraFiles → Option Refusal
extra_refusal None = None
extra_refusal (Some extra) =
    first (size_refusal BuiltinAliasBin extra.builtin_alias_bin ∷ size_refusal Devname extra.devname
    ∷ [])

-- What the modules of a tree result in, if modules.builtin.modinfo was read: the two files, or a
-- refusal. Otherwise there are no such files.
unfoldable pub extra_outcome : List Facts → Option (List ℕ) → Outcome (Option ExtraFiles)
extra_outcome tree info =
    value_unless (λ refusal. refusal) (extra_refusal (extra_made tree info)) (extra_made tree info)

-- how a refusal stops the command
abbrev pub refused_stop : Refusal → Stop
refused_stop refusal = Ended (Refused refusal)
