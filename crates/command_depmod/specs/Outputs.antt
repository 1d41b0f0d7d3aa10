-- The files that `depmod` makes, and what it does with them. depmod(8), modules.dep(5).
use Rattle.std.specs.Prelude.{ℕ, Bool, false, List, map, codes, Option, None, ⊤}
use Rattle.km_names.specs.First.{first}
use Rattle.km_names.specs.Path.{path_below}
use Rattle.depmod_core.specs.declared.files.OutputFiles.{OutputFiles}
use Rattle.depmod_core.specs.Files.{files}
use Rattle.km_course.specs.Course.{Outcome, Stage, ◌>>=◌, given, gives, reads_any, puts, says_any}
use Rattle.km_course.specs.Course.{each_from, when◌then◌else◌}
use Rattle.km_course.specs.declared.refusal.Refusal.{Refusal}
use Rattle.command_depmod.specs.declared.files.DepmodFile.{DepmodFile}
use Rattle.command_depmod.specs.declared.files.DepmodFiles.{DepmodFiles}
use Rattle.command_depmod.specs.Extra.{extra_outcome, reads_info, size_refusal}
use Rattle.command_depmod.specs.Files.{all_files, content, file_name, text_files}
use Rattle.km_course.specs.Course.{value_unless}
use Rattle.command_depmod.specs.Relation.{KernelTree}

-- The refusal of the first of the nine files that is too large.
abbrev pub usual_refusal : OutputFiles → Option Refusal
usual_refusal made =
    first (map (λ file. size_refusal file (content (record { usual = made; extra = None }) file))
    (all_files false))

-- What a tree results in that has these nine files: they, or a refusal.
unfoldable pub outputs_outcome : OutputFiles → Outcome OutputFiles
outputs_outcome made = value_unless (λ refusal. refusal) (usual_refusal made) made

-- The files of a tree whose modules are in the folder. Its modules.builtin is read, which counts as
-- empty if it is missing, and with `--extra` its modules.builtin.modinfo. Then the nine files are
-- checked, and then the two others.
abbrev pub makes_files : Bool → List ℕ → KernelTree → Stage DepmodFiles
makes_files extra folder tree = do
  builtin ← reads_any (path_below folder (codes "modules.builtin"))
  info ← reads_info extra folder
  usual ← given (outputs_outcome (files tree.facts tree.kernel builtin))
  added ← given (extra_outcome tree.facts info)
  gives (record { usual = usual; extra = added })

-- A file is put into the folder.
abbrev pub puts_file : List ℕ → DepmodFiles → DepmodFile → Stage ⊤
puts_file folder made file = puts (path_below folder (file_name file)) (content made file)

-- Some of the files are put into the folder, one after the other.
abbrev pub puts_each : List ℕ → DepmodFiles → List DepmodFile → Stage ⊤
puts_each folder made files = each_from (λ _ file. puts_file folder made file) tt files

-- A file is written to the output, if it has any bytes.
abbrev pub says_file : DepmodFiles → DepmodFile → Stage ⊤
says_file made file = says_any (content made file)

-- Some of the files are written to the output, one after the other.
abbrev pub says_each : DepmodFiles → List DepmodFile → Stage ⊤
says_each made files = each_from (λ _ file. says_file made file) tt files

-- With `-n` the text files are written to the output, and nothing is replaced; otherwise all files
-- are put into the folder.
abbrev pub hands_out : Bool → Bool → List ℕ → DepmodFiles → Stage ⊤
hands_out extra dry_run folder made =
    when dry_run then says_each made (text_files extra) else puts_each folder made (all_files extra)
