-- modprobe plans exactly if an order exists, and otherwise it names the first obstacle, whatever
-- the files are. modprobe(8).
use Rattle.std.specs.Prelude.{◌≡◌, ℕ, List, [], ◌++◌, take, Some, None, ⊤}
use Rattle.outside_calls.specs.Contents.{Contents}
use Rattle.km_course.specs.Course.Outcome.{value}
use Rattle.km_course.specs.Lines.{line}
use Rattle.km_course.specs.World.{World, Shown, Tells}
use Rattle.kmod_words.specs.declared.modprobe.Mode.{Mode}
use Rattle.kmod_words.specs.declared.modprobe.Mode.TheVariants.{Load, DryRun, ShowDepends}
use Rattle.kmod_words.specs.declared.modprobe.Mode.TheVariants.{ResolveAlias, Remove}
use Rattle.kmod_words.specs.declared.modprobe.ModprobeWords.{ModprobeWords}
use Rattle.kmod_words.specs.Modprobe.{modprobe_request}
use Rattle.kernel_exports.specs.declared.kernel.Kernel.{Kernel}
use Rattle.module_region.specs.declared.region.Region.{Region}
use Rattle.plan_sources.specs.Sources.{Sources}
use Rattle.plan_builder.specs.Steps.{plan_steps}
use Rattle.plan_builder.specs.Text.{first_obstacle_text}
use Rattle.stages_known.specs.declared.known.Known.{Known}
use Rattle.stages_known.specs.Known.{reads_known}
use Rattle.command_modprobe.specs.Planned.{loaded_in, plan_lines, request_of, sources_with}
use Rattle.laws_planned_loads.specs.Courses.{HasMachine}
use Rattle.kmod_cli.specs.CameTo.{CameTo}
use Rattle.kmod_cli.specs.Headline.{folder_asked}

-- ---- where it applies

-- What a mode needs before its plan is made: a load has the machine of a kernel.
abbrev pub IsReady : Contents → ModprobeWords → Mode → Type 0
IsReady held asked Load =
    (kernel : Kernel) × (region : Region) × HasMachine held asked kernel region
IsReady held asked DryRun = ⊤
IsReady held asked ShowDepends = ⊤
IsReady held asked ResolveAlias = ⊥
IsReady held asked (Remove dry_run) = ⊥

-- A plan is asked for, and what is read before it is understood.
pub record CameToPlan (held : Contents) (asked : ModprobeWords) (known : Known) : Type 0 where
  pub ready : IsReady held asked asked.mode
  pub knows : ((reads_known asked.config (folder_asked asked) asked.loaded).run held).outcome
      ≡ value known

-- ---- what is done

-- What the plan is made from. With `-D` no module counts as loaded.
abbrev pub sources_asked : ModprobeWords → Known → Sources
sources_asked asked known =
    sources_with known (loaded_in asked.mode known.loaded) (request_of asked)

-- The lines of the plan.
abbrev pub lines_asked : ModprobeWords → Known → List ℕ
lines_asked asked known =
    plan_lines (folder_asked asked) (plan_steps (sources_asked asked known) (request_of asked))

-- No file was written, and a first part of some lines was printed.
pub record IsPrintedPart (lines : List ℕ) (shown : Shown) (new : World) : Type 0 where
  pub bytes : ℕ
  pub files : new.files.contents ≡ Some shown.files
  pub out : new.out.told ≡ Some (shown.out ++ take bytes lines)

-- What modprobe did over files and outputs with these known contents: it left new and answered this
-- status.
pub record IsPlanned (asked : ModprobeWords) (known : Known) (shown : Shown) (old new : World)
    (status : ℕ) : Type 0 where
  -- if no load is asked for and nothing is in the way, the lines of the plan are printed, and
  -- nothing else is written
  pub planned : ¬ (asked.mode ≡ Load)
      → first_obstacle_text (sources_asked asked known) (request_of asked) ≡ None
      → CameTo 0 (record shown { out = shown.out ++ lines_asked asked known })
      (IsPrintedPart (lines_asked asked known) shown) old new status
  -- if something is, the first obstacle is named on err, and nothing else is written
  pub refused : (text : List ℕ)
      → first_obstacle_text (sources_asked asked known) (request_of asked) ≡ Some text
      → CameTo 1 (record shown { err = shown.err ++ line text }) (IsPrintedPart [] shown) old new
      status

-- modprobe with these words after its name, over files and outputs with known contents.
abbrev pub Plans : List (List ℕ) → World → World → ℕ → Type 0
Plans words old new status =
    (shown : Shown) → Tells old shown →
    (asked : ModprobeWords) → modprobe_request words ≡ Some asked →
    (known : Known) → CameToPlan shown.files asked known
    → IsPlanned asked known shown old new status
