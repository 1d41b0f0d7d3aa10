-- The stages of a plan that is made and shown, joined.
use Rattle.std.proofs.Common.{◌≡◌, ℕ, Bool, true, false, List, [], ◌∷◌, length, drop, refl, sym, ap}
use Rattle.std.proofs.Common.{subst, ◌∙◌, inl, inr, arith}
use Rattle.std.specs.Prelude.{Option, Some, None, Result, Err, ◌⊎◌, if◌then◌else◌, option_map, ⊤}
use Rattle.std.proofs.lemmas.List.{drop_all}
use Rattle.km_names.specs.Texts.{spaced}
use Rattle.kmod_words.specs.declared.modprobe.ModprobeWords.{ModprobeWords}
use Rattle.plan_builder.specs.declared.obstacle.Obstacle.{Obstacle}
use Rattle.plan_builder.specs.declared.obstacle.Obstacle.TheVariants as obstacles
use Rattle.plan_builder.specs.declared.request.Request.{Request}
use Rattle.plan_builder.specs.declared.step.PlanStep.{PlanStep}
use Rattle.plan_builder.specs.Obstacles.{PlanObstacle, as_obstacle, obstacle_of}
use Rattle.plan_builder.specs.Steps.{plan_steps}
use Rattle.plan_builder.specs.Text.{obstacle_text, plan_text}
use Rattle.plan_builder.proofs.PlanTexts.{same-text}
use Rattle.km_course.specs.Course.{Stage, ◌>>=◌, says_any}
use Rattle.km_course.specs.Course.Outcome.{value, end}
use Rattle.km_course.specs.World.{World}
use Rattle.km_course.specs.Follows.{Answers, Follows}
use Rattle.km_course.specs.declared.end.End.TheVariants.{Refused}
use Rattle.km_course.specs.declared.refusal.Refusal.TheVariants.{Obstacle as Unplanned}
use Rattle.km_course.specs.declared.stop.Stop.{Stop}
use Rattle.km_course.specs.declared.stop.Stop.TheVariants.{Ended, Memory}
use Rattle.km_course.proofs.Following.{along}
use Rattle.stages_files.specs.KernelModules.{modules_folder}
use Rattle.stages_known.specs.declared.known.Known.{Known}
use Rattle.stages_known.specs.Known.{reads_known}
use Rattle.command_modprobe.specs.Resolved.{names_asked}
use Rattle.command_modprobe.specs.Parts.{prints_plan}
use Rattle.km_course.specs.Course.{value_unless}
use Rattle.command_modprobe.specs.Planned.{plan_lines, plan_outcome, request_of}
use Rattle.command_modprobe.specs.Planned.{shows_plan, sources_with}

-- the stage after a plan was made
abbrev pub after_plan : List ℕ → List PlanStep → Stage ⊤
after_plan folder steps = says_any (plan_lines folder steps)

-- what is asked for, where its folder and its request are these
pub shows-asked : (asked : ModprobeWords) (folder : List ℕ) (request : Request) (old new : World)
    (r : Result ⊤ Stop)
    → folder ≡ modules_folder asked.dirname asked.version → request ≡ request_of asked
    → Follows (λ x. x)
    (reads_known asked.config (modules_folder asked.dirname asked.version) asked.loaded
    >>= prints_plan folder request asked.mode) old new r
    → Follows (λ x. x) (shows_plan asked) old new r
shows-asked asked folder request old new r place what f =
    let known
    = reads_known asked.config (modules_folder asked.dirname asked.version) asked.loaded in
    along (λ p. known >>= prints_plan p (request_of asked) asked.mode) folder
    (modules_folder asked.dirname asked.version) place
    (along (λ q. known >>= prints_plan folder q asked.mode) request (request_of asked) what f)

-- the words after those that are names
pub options-after : (all : Bool) (words : List (List ℕ))
    → spaced (drop (length (names_asked all words)) words)
    ≡ (if all then [] else spaced (drop 1 words))
options-after true words = ap spaced (drop_all (length words) words (omega arith))
options-after false [] = refl
options-after false (word ∷ words) = refl

-- a plan that was made
pub planned : (known : Known) (loaded : List (List ℕ)) (request : Request) (steps : List PlanStep)
    → obstacle_of (sources_with known loaded request) request ≡ None
    → steps ≡ plan_steps (sources_with known loaded request) request
    → plan_outcome known loaded request ≡ value steps
unfolding plan_outcome
planned known loaded request steps passed is =
    ap (λ o. value_unless Unplanned (option_map plan_text o)
    (plan_steps (sources_with known loaded request) request)) passed
    ∙ ap value (sym is)

-- what an obstacle that was met results in
met : (first : Option PlanObstacle) (steps : List PlanStep) (o : Obstacle)
    → option_map as_obstacle first ≡ Some o
    → value_unless Unplanned (option_map plan_text first) steps
    ≡ end (Refused (Unplanned (obstacle_text o)))
met None steps o found = cc
met (Some first) steps o found =
    let same : as_obstacle first ≡ o = cc in
    ap (λ text. end (Refused (Unplanned text))) (sym (same-text first) ∙ ap obstacle_text same)

-- an obstacle that was met stops the command with its text, unless memory ran out
pub not-planned : (known : Known) (loaded : List (List ℕ)) (request : Request) (o : Obstacle)
    (stop : Stop)
    → (stop ≡ Memory)
    ⊎ ((stop ≡ Ended (Refused (Unplanned (obstacle_text o)))) × ¬ (o ≡ obstacles.Memory))
    → (o ≡ obstacles.Memory)
    ⊎ (option_map as_obstacle (obstacle_of (sources_with known loaded request) request)
    ≡ Some o)
    → Answers (λ (x : List PlanStep). x) (plan_outcome known loaded request) (Err stop)
unfolding plan_outcome
not-planned known loaded request o stop (inl memory) why =
    subst (λ s. Answers (λ (x : List PlanStep). x) (plan_outcome known loaded request) (Err s))
    (sym memory) tt
not-planned known loaded request o stop (inr (is, other)) (inl memory) = absurd (other memory)
not-planned known loaded request o stop (inr (is, other)) (inr found) =
    subst (λ s. Answers (λ (x : List PlanStep). x) (plan_outcome known loaded request) (Err s))
    (sym is)
    (met (obstacle_of (sources_with known loaded request) request)
    (plan_steps (sources_with known loaded request) request) o found)
