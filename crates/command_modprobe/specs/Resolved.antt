-- What names stand for, as `modprobe -R` prints it. modprobe(8), `--resolve-alias`.
use Rattle.std.specs.Prelude.{ℕ, Bool, List, take, if◌then◌else◌, ⊤}
use Rattle.km_names.specs.Lines.{lines_text}
use Rattle.kmod_words.specs.declared.modprobe.ModprobeWords.{ModprobeWords}
use Rattle.km_course.specs.Course.{Stage, ◌>>=◌, given, says_any}
use Rattle.stages_files.specs.KernelModules.{modules_folder}
use Rattle.stages_known.specs.Known.{reads_known}
use Rattle.stages_known.specs.Named.{names_outcome}

-- The words that are names: all with `-a`, else the first.
abbrev pub names_asked : Bool → List (List ℕ) → List (List ℕ)
names_asked all words = if all then words else take 1 words

-- The course of `modprobe -R`: a line for each name that the names stand for.
abbrev pub resolves_alias : ModprobeWords → Stage ⊤
resolves_alias asked = do
  known ← reads_known asked.config (modules_folder asked.dirname asked.version) asked.loaded
  names ← given (names_outcome known asked.use_blacklist (names_asked asked.all asked.words))
  says_any (lines_text names)
