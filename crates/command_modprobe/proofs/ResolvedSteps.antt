-- Names, and what they stand for.
use Rattle.std.proofs.Common.{◌≡◌, ℕ, List}
use Rattle.std.specs.Prelude.{Result, ⊤}
use Rattle.kmod_words.specs.declared.modprobe.ModprobeWords.{ModprobeWords}
use Rattle.stages_files.specs.KernelModules.{modules_folder}
use Rattle.plan_builder.specs.declared.request.Request.{Request}
use Rattle.km_course.specs.World.{World}
use Rattle.km_course.specs.Follows.{Follows}
use Rattle.km_course.specs.declared.stop.Stop.{Stop}
use Rattle.km_course.specs.Course.{Stage, ◌>>=◌, says_any}
use Rattle.km_course.proofs.Following.{along}
use Rattle.stages_known.specs.Known.{reads_known}
use Rattle.command_modprobe.specs.Parts.{prints_names}
use Rattle.command_modprobe.specs.Planned.{request_of}
use Rattle.km_names.specs.Lines.{lines_text}
use Rattle.command_modprobe.specs.Resolved.{resolves_alias}

-- the stage after the names were looked up
abbrev pub after_names : List (List ℕ) → Stage ⊤
after_names names = says_any (lines_text names)

-- what is asked for, where its request is this
pub resolves-asked : (asked : ModprobeWords) (request : Request) (old new : World)
    (r : Result ⊤ Stop)
    → request ≡ request_of asked
    → Follows (λ x. x)
    (reads_known asked.config (modules_folder asked.dirname asked.version) asked.loaded
    >>= prints_names request) old new r
    → Follows (λ x. x) (resolves_alias asked) old new r
resolves-asked asked request old new r what f =
    along (λ q. reads_known asked.config (modules_folder asked.dirname asked.version) asked.loaded
    >>= prints_names q) request (request_of asked) what f
