-- The plan of what is asked for, and its lines. modprobe(8), `--dry-run` and `--show-depends`.
use Rattle.std.specs.Prelude.{ℕ, List, [], ◌∷◌, ◌++◌, drop, codes}
use Rattle.std.specs.Prelude.{if◌then◌else◌, ⊤}
use Rattle.std.specs.List.{flat_map}
use Rattle.km_names.specs.Path.{path_below}
use Rattle.km_names.specs.Texts.{spaced}
use Rattle.kmod_words.specs.declared.modprobe.Mode.{Mode}
use Rattle.kmod_words.specs.declared.modprobe.Mode.TheVariants.{Load, DryRun, ShowDepends}
use Rattle.kmod_words.specs.declared.modprobe.Mode.TheVariants.{ResolveAlias, Remove}
use Rattle.kmod_words.specs.declared.modprobe.ModprobeWords.{ModprobeWords}
use Rattle.plan_builder.specs.declared.request.Request.{Request}
use Rattle.plan_builder.specs.declared.step.PlanStep.{PlanStep}
use Rattle.plan_builder.specs.declared.step.PlanStep.TheVariants.{Insert, Install, Builtin}
use Rattle.plan_sources.specs.Sources.{Sources}
use Rattle.plan_builder.specs.Sources.{sources}
use Rattle.plan_builder.specs.Steps.{plan_steps}
use Rattle.plan_builder.specs.Text.{first_obstacle_text}
use Rattle.km_course.specs.Course.{Outcome, Stage, ◌>>=◌, given, says_any, value_unless}
use Rattle.km_course.specs.declared.refusal.Refusal.TheVariants.{Obstacle as Unplanned}
use Rattle.stages_files.specs.KernelModules.{modules_folder}
use Rattle.stages_known.specs.declared.known.Known.{Known}
use Rattle.stages_known.specs.Known.{reads_known}
use Rattle.command_modprobe.specs.Resolved.{names_asked}

-- Parameters for the module of the first word: the words after it with a space between each and the
-- next; none if all words are names.
abbrev pub options_asked : ModprobeWords → List ℕ
options_asked asked = if asked.all then [] else spaced (drop 1 asked.words)

-- What is to be planned.
abbrev pub request_of : ModprobeWords → Request
request_of asked = record {
  names = names_asked asked.all asked.words;
  options = options_asked asked;
  use_blacklist = asked.use_blacklist;
  ignore_install = asked.ignore_install;
}

-- What a plan is made from, if these modules are loaded.
abbrev pub sources_with : Known → List (List ℕ) → Request → Sources
sources_with known loaded request = sources known.rules known.indexes known.unmet loaded request

-- What a request results in, if these modules are loaded: its plan, or the refusal of its first
-- obstacle.
unfoldable pub plan_outcome : Known → List (List ℕ) → Request → Outcome (List PlanStep)
plan_outcome known loaded request =
    value_unless Unplanned (first_obstacle_text (sources_with known loaded request) request)
    (plan_steps (sources_with known loaded request) request)

-- What follows a path in its line: the parameters after a space, if there are any.
abbrev pub after_space : List ℕ → List ℕ
after_space [] = []
after_space (b ∷ bs) = 32 ∷ b ∷ bs

-- The line of a module that is loaded, by its whole path and its parameters.
abbrev pub insert_line : List ℕ → List ℕ → List ℕ → List ℕ
insert_line folder path options =
    codes "insmod " ++ (path_below folder path ++ (after_space options ++ 10 ∷ []))

-- The line of a step of a plan for the modules in a folder.
abbrev pub step_line : List ℕ → PlanStep → List ℕ
step_line folder (Insert name path options) = insert_line folder path options
step_line folder (Install name command) = codes "install " ++ (command ++ 10 ∷ [])
step_line folder (Builtin name) = codes "builtin " ++ (name ++ 10 ∷ [])

-- The lines of a plan, a line for each step.
abbrev pub plan_lines : List ℕ → List PlanStep → List ℕ
plan_lines folder steps = flat_map (step_line folder) steps

-- The modules that count as loaded in a mode: `--show-depends` plans as if none were.
abbrev pub loaded_in : Mode → List (List ℕ) → List (List ℕ)
loaded_in ShowDepends loaded = []
loaded_in DryRun loaded = loaded
loaded_in Load loaded = loaded
loaded_in ResolveAlias loaded = loaded
loaded_in (Remove dry_run) loaded = loaded

-- The course of `modprobe -n` and of `modprobe -D`.
abbrev pub shows_plan : ModprobeWords → Stage ⊤
shows_plan asked = do
  known ← reads_known asked.config (modules_folder asked.dirname asked.version) asked.loaded
  steps ← given (plan_outcome known (loaded_in asked.mode known.loaded) (request_of asked))
  says_any (plan_lines (modules_folder asked.dirname asked.version) steps)
