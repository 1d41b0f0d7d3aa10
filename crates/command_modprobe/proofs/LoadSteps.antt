-- The stages of a plan that is loaded, joined.
use Rattle.std.proofs.Common.{◌≡◌, ℕ, ◌+◌, ◌≤◌, List, ◌∷◌, ◌++◌, length, map, drop, refl, sym, ap}
use Rattle.std.proofs.Common.{subst, ◌∙◌, append_assoc, append-nil, inl, inr}
use Rattle.std.specs.Prelude.{Option, Some, None, Result, Err, ◌⊎◌, option_map, ⊤}
use Rattle.std.specs.List.{flat_map}
use Rattle.std.proofs.lemmas.List.{drop_all}
use Rattle.km_names.specs.First.{first}
use Rattle.kmod_words.specs.declared.modprobe.ModprobeWords.{ModprobeWords}
use Rattle.kmod_words.specs.Modprobe.{region_asked}
use Rattle.module_region.specs.declared.region.Region.{Region}
use Rattle.model_loader.specs.Machine.{Machine}
use Rattle.plan_builder.specs.declared.request.Request.{Request}
use Rattle.plan_builder.specs.declared.step.PlanStep.{PlanStep}
use Rattle.km_course.specs.Course.{Stage, ◌>>=◌, given, gives, ends, says_any}
use Rattle.km_course.specs.Course.Outcome.{value, end}
use Rattle.km_course.specs.World.{World}
use Rattle.km_course.specs.Follows.{Answers, Follows}
use Rattle.km_course.specs.declared.end.End.TheVariants.{NotUnderstood}
use Rattle.km_course.specs.declared.stop.Stop.{Stop}
use Rattle.km_course.specs.declared.stop.Stop.TheVariants.{Ended, Memory}
use Rattle.km_course.proofs.Steps.{answered}
use Rattle.km_course.proofs.Following.{along}
use Rattle.stages_files.specs.KernelModules.{modules_folder}
use Rattle.stages_loads.specs.declared.load.Insertion.{Insertion}
use Rattle.stages_loads.specs.declared.shown.Images.{Images}
use Rattle.stages_loads.specs.Loads.{loads_all}
use Rattle.stages_known.specs.declared.known.Known.{Known}
use Rattle.stages_known.specs.Known.{reads_known}
use Rattle.command_modprobe.specs.Planned.{plan_lines, request_of}
use Rattle.command_modprobe.specs.Parts.{loads_known}
use Rattle.command_modprobe.specs.Loaded.{command_owner, images_asked, inserted, inserts_outcome}
use Rattle.command_modprobe.specs.Loaded.{install_stop, loads_plan, loads_request, loads_steps}
use Rattle.km_course.specs.Course.{value_unless}
use Rattle.km_course.specs.declared.refusal.Refusal.TheVariants.{InstallChosen}

-- the stages after each part of a load
abbrev pub after_loads : Machine → Stage ⊤
after_loads machine = gives tt

abbrev pub after_lines : List ℕ → Images → Machine → List Insertion → ⊤ → Stage ⊤
after_lines folder images listed inserts said =
    loads_all folder images listed inserts >>= after_loads

abbrev pub after_listed : List ℕ → Images → List PlanStep → List Insertion → Machine → Stage ⊤
after_listed folder images steps inserts listed =
    says_any (plan_lines folder steps) >>= after_lines folder images listed inserts

abbrev pub after_inserts : List ℕ → Images → Known → Machine → List PlanStep → List Insertion
    → Stage ⊤
after_inserts folder images known machine steps inserts =
    loads_steps folder images known machine steps inserts

abbrev pub after_steps : List ℕ → Images → Known → Machine → List PlanStep → Stage ⊤
after_steps folder images known machine steps =
    given (inserts_outcome steps) >>= after_inserts folder images known machine steps

abbrev pub after_machine : List ℕ → Images → Request → Known → Machine → Stage ⊤
after_machine folder images request known machine =
    loads_request folder images request known machine

-- what is asked for, where its folder, its images, its request and its Module.symvers are these
pub loads-asked : (asked : ModprobeWords) (folder : List ℕ) (images : Images) (request : Request)
    (system_map : List ℕ) (symvers : Option (List ℕ)) (region : Region) (old new : World)
    (r : Result ⊤ Stop)
    → folder ≡ modules_folder asked.dirname asked.version → images ≡ images_asked asked
    → request ≡ request_of asked → symvers ≡ asked.symvers → region ≡ region_asked asked
    → Follows (λ x. x)
    (reads_known asked.config (modules_folder asked.dirname asked.version) asked.loaded
    >>= loads_known folder images request system_map symvers region) old new r
    → Follows (λ x. x) (loads_plan asked system_map) old new r
loads-asked asked folder images request system_map symvers region old new r place shown what table
    within f
    =
    let known
    = reads_known asked.config (modules_folder asked.dirname asked.version) asked.loaded in
    along (λ p. known
    >>= loads_known p (images_asked asked) (request_of asked) system_map asked.symvers
    (region_asked asked)) folder (modules_folder asked.dirname asked.version) place
    (along (λ i. known
    >>= loads_known folder i (request_of asked) system_map asked.symvers (region_asked asked))
    images (images_asked asked) shown
    (along
    (λ q. known >>= loads_known folder images q system_map asked.symvers (region_asked asked))
    request (request_of asked) what
    (along (λ s. known >>= loads_known folder images request system_map s (region_asked asked))
    symvers asked.symvers table
    (along (λ g. known >>= loads_known folder images request system_map symvers g) region
    (region_asked asked) within f))))

-- steps of which none runs a command
pub insert-more : (steps : List PlanStep) (i : ℕ) (step : PlanStep) (inserts more : List Insertion)
    → drop i steps ≡ step ∷ drop (i + 1) steps → more ≡ inserts ++ inserted step
    → inserts ++ flat_map inserted (drop i steps) ≡ flat_map inserted steps
    → more ++ flat_map inserted (drop (i + 1) steps) ≡ flat_map inserted steps
insert-more steps i step inserts more cut added before =
    ap (λ ps. ps ++ flat_map inserted (drop (i + 1) steps)) added
    ∙ append_assoc inserts (inserted step) (flat_map inserted (drop (i + 1) steps))
    ∙ ap (λ ss. inserts ++ flat_map inserted ss) (sym cut)
    ∙ before

no-command : (step : PlanStep) (others : List (Option (List ℕ))) → command_owner step ≡ None
    → first (command_owner step ∷ others) ≡ first others
no-command step others is = ap (λ o. first (o ∷ others)) is

pub command-later : (steps : List PlanStep) (i : ℕ) (step : PlanStep)
    → drop i steps ≡ step ∷ drop (i + 1) steps → command_owner step ≡ None
    → first (map command_owner (drop i steps)) ≡ first (map command_owner steps)
    → first (map command_owner (drop (i + 1) steps)) ≡ first (map command_owner steps)
command-later steps i step cut none before =
    sym (no-command step (map command_owner (drop (i + 1) steps)) none)
    ∙ ap (λ ss. first (map command_owner ss)) (sym cut)
    ∙ before

-- a step that runs a command stops
command-found : (o : Option (List ℕ)) (stop : Stop) (steps : List PlanStep)
    → option_map install_stop o ≡ Some stop → o ≡ first (map command_owner steps)
    → Answers (λ (x : List Insertion). x) (inserts_outcome steps) (Err stop)
unfolding inserts_outcome
command-found None stop steps met is = cc
command-found (Some name) stop steps met is =
    let same : install_stop name ≡ stop = cc in
    subst (λ s. Answers (λ (x : List Insertion). x) (inserts_outcome steps) (Err s)) same
    (ap (λ o. value_unless InstallChosen o (flat_map inserted steps)) (sym is))

first-owner : (o : Option (List ℕ)) (others : List (Option (List ℕ))) (stop : Stop)
    → option_map install_stop o ≡ Some stop → first (o ∷ others) ≡ o
first-owner None others stop met = cc
first-owner (Some name) others stop met = refl

pub command-stops : (steps : List PlanStep) (i : ℕ) (step : PlanStep) (stop : Stop)
    → drop i steps ≡ step ∷ drop (i + 1) steps
    → first (map command_owner (drop i steps)) ≡ first (map command_owner steps)
    → (stop ≡ Memory) ⊎ (option_map install_stop (command_owner step) ≡ Some stop)
    → Answers (λ (x : List Insertion). x) (inserts_outcome steps) (Err stop)
command-stops steps i step stop cut before (inl wanting) =
    subst (λ s. Answers (λ (x : List Insertion). x) (inserts_outcome steps) (Err s)) (sym wanting)
    tt
command-stops steps i step stop cut before (inr met) =
    command-found (command_owner step) stop steps met
    (sym (first-owner (command_owner step) (map command_owner (drop (i + 1) steps)) stop met)
    ∙ ap (λ ss. first (map command_owner ss)) (sym cut)
    ∙ before)

-- all steps were looked at
pub inserts-given : (steps : List PlanStep) (i : ℕ) (inserts : List Insertion) → length steps ≤ i
    → first (map command_owner (drop i steps)) ≡ first (map command_owner steps)
    → inserts ++ flat_map inserted (drop i steps) ≡ flat_map inserted steps
    → inserts_outcome steps ≡ value inserts
unfolding inserts_outcome
inserts-given steps i inserts past before all =
    let gone = drop_all i steps past in
    ap (λ o. value_unless InstallChosen o (flat_map inserted steps))
    (sym before ∙ ap (λ ss. first (map command_owner ss)) gone)
    ∙ ap value (sym all ∙ ap (λ ss. inserts ++ flat_map inserted ss) gone ∙ append-nil inserts)
