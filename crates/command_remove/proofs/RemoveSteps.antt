-- The stages of a removal, joined.
use Rattle.std.proofs.Common.{◌≡◌, ◌∙◌, ◌+◌, ◌≤◌, ℕ, Bool, true, false, List, ◌∷◌, Option, Some}
use Rattle.std.proofs.Common.{None, refl, sym, ap, map, drop, length, inl, inr}
use Rattle.std.specs.Prelude.{◌⊎◌, Result, Ok, Err, option_map, ⊤}
use Rattle.std.specs.Option.{option_map_or}
use Rattle.std.proofs.lemmas.List.{drop_all}
use Rattle.km_names.specs.First.{first}
use Rattle.km_course.specs.Course.{Stage, ◌>>=◌, given, gives, says_any}
use Rattle.km_course.specs.Course.Outcome.{value, end}
use Rattle.km_course.specs.World.{World}
use Rattle.km_course.specs.Follows.{Follows}
use Rattle.km_course.specs.declared.end.End.TheVariants.{Refused}
use Rattle.km_course.specs.declared.refusal.Refusal.TheVariants.{InUse, RemoveChosen}
use Rattle.km_course.specs.declared.stop.Stop.{Stop}
use Rattle.km_course.proofs.Following.{along}
use Rattle.kmod_words.specs.declared.modprobe.ModprobeWords.{ModprobeWords}
use Rattle.kmod_words.specs.Modprobe.{region_asked}
use Rattle.modprobe_conf.specs.declared.rule.Rule.{Rule}
use Rattle.module_region.specs.declared.region.Region.{Region}
use Rattle.model_loader.specs.Machine.{Machine}
use Rattle.model_loader.specs.Use.{name_at, without}
use Rattle.model_unload.specs.declared.UnloadFault.{UnloadFault}
use Rattle.model_unload.specs.declared.UnloadFault.TheVariants as UnloadFaults
use Rattle.model_unload.specs.Unload.{first_user, place_of, unload_all, unloaded, unloaded_at}
use Rattle.model_unload.specs.Unload.{unless_refused}
use Rattle.remove_plan.specs.declared.step.RemoveStep.{RemoveStep}
use Rattle.remove_plan.specs.declared.step.RemoveFault.{RemoveFault}
use Rattle.remove_plan.specs.declared.step.RemoveFault.TheVariants as faults
use Rattle.remove_plan.specs.Removal.{in_use, is_asked}
use Rattle.remove_plan.specs.Steps.{removal_fault, removal_steps}
use Rattle.stages_files.specs.KernelModules.{modules_folder}
use Rattle.stages_known.specs.declared.known.Known.{Known}
use Rattle.stages_loads.specs.Tables.{reads_machine}
use Rattle.command_remove.specs.declared.course.Removal.{Removal}
use Rattle.command_remove.specs.declared.course.Sources.{Sources}
use Rattle.command_remove.specs.Over.{removes_over}
use Rattle.command_remove.specs.Lines.{left_lines, step_lines}
use Rattle.command_remove.specs.Remove.{carries_out, chosen_outcome, command_owner, first_owner}
use Rattle.command_remove.specs.Remove.{removal_of, removes, removes_listed, removes_names}
use Rattle.km_course.specs.Course.{value_unless}
use Rattle.command_remove.specs.Remove.{step_name, steps_outcome, steps_unless}
use Rattle.command_remove.specs.Remove.{unloads_unless, without_named}

-- ---- the stages after each part of a removal

abbrev pub after_left : Machine → Stage ⊤
after_left left = says_any (left_lines left.entries)

abbrev pub one_unloaded : Machine → RemoveStep → ⊤ → Stage Machine
one_unloaded machine step said = gives (without_named machine (step_name step))

abbrev pub after_lines : Bool → Machine → List RemoveStep → ⊤ → Stage ⊤
after_lines dry_run machine steps said = unloads_unless dry_run machine steps

abbrev pub after_check : Bool → Machine → List RemoveStep → ⊤ → Stage ⊤
after_check dry_run machine steps passed =
    says_any (step_lines steps) >>= after_lines dry_run machine steps

abbrev pub after_steps : Bool → Machine → List RemoveStep → Stage ⊤
after_steps dry_run listed steps = carries_out dry_run listed steps

abbrev pub after_names : Removal → Known → Machine → List (List ℕ) → Stage ⊤
after_names removal known listed names =
    given (steps_outcome listed known.rules removal.ignore_remove names)
    >>= after_steps removal.dry_run listed

abbrev pub after_listed : Removal → Known → Machine → Stage ⊤
after_listed removal known listed = removes_names removal known listed

abbrev pub after_machine : List ℕ → Removal → Known → Machine → Stage ⊤
after_machine folder removal known machine = removes_listed folder removal known machine

abbrev pub after_known : List ℕ → Removal → List ℕ → Option (List ℕ) → Region → Known → Stage ⊤
after_known folder removal system_map symvers region known =
    reads_machine system_map symvers region >>= after_machine folder removal known

-- what is asked for, over the files that it names
abbrev sources_of : ModprobeWords → List ℕ → Sources
sources_of asked map =
    record
    { config = asked.config; loaded = asked.loaded; system_map = map; symvers = asked.symvers }

pub removes-asked : (dry_run : Bool) (asked : ModprobeWords) (folder map : List ℕ) (region : Region)
    (old new : World) (r : Result ⊤ Stop)
    → folder ≡ modules_folder asked.dirname asked.version → region ≡ region_asked asked
    → Follows (λ x. x)
    (removes_over folder (removal_of dry_run asked) (sources_of asked map) region) old new r
    → Follows (λ x. x) (removes dry_run asked map) old new r
removes-asked dry_run asked folder map region old new r place within f =
    along
    (λ p. removes_over p (removal_of dry_run asked) (sources_of asked map) (region_asked asked))
    folder (modules_folder asked.dirname asked.version) place
    (along (removes_over folder (removal_of dry_run asked) (sources_of asked map)) region
    (region_asked asked) within f)

-- ---- the steps

no-fault : (machine : Machine) (used : Option (ℕ × ℕ)) (steps : List RemoveStep)
    → option_map (λ p. faults.InUse (name_at machine p.0) (name_at machine p.1)) used ≡ None
    → steps_unless machine used steps ≡ value steps
no-fault machine None steps none = refl
no-fault machine (Some used) steps none = cc

pub steps-given : (machine : Machine) (rules : List Rule) (ignored : Bool) (names : List (List ℕ))
    (steps : List RemoveStep)
    → removal_fault machine names ≡ None → steps ≡ removal_steps machine rules ignored names
    → steps_outcome machine rules ignored names ≡ value steps
unfolding steps_outcome
steps-given machine rules ignored names steps none are =
    no-fault machine (in_use machine (is_asked machine names))
    (removal_steps machine rules ignored names) none
    ∙ ap value (sym are)

fault-told : (machine : Machine) (used : Option (ℕ × ℕ)) (steps : List RemoveStep)
    (name user : List ℕ)
    → option_map (λ p. faults.InUse (name_at machine p.0) (name_at machine p.1)) used
    ≡ Some (faults.InUse name user)
    → steps_unless machine used steps ≡ end (Refused (InUse name user))
fault-told machine None steps name user is = cc
fault-told machine (Some used) steps name user is =
    let here : name_at machine used.0 ≡ name = cc in
    let by : name_at machine used.1 ≡ user = cc in
    ap (λ n. end (Refused (InUse n (name_at machine used.1)))) here
    ∙ ap (λ n. end (Refused (InUse name n))) by

pub steps-refused : (machine : Machine) (rules : List Rule) (ignored : Bool) (names : List (List ℕ))
    (name user : List ℕ)
    → removal_fault machine names ≡ Some (faults.InUse name user)
    → steps_outcome machine rules ignored names ≡ end (Refused (InUse name user))
unfolding steps_outcome
steps-refused machine rules ignored names name user is =
    fault-told machine (in_use machine (is_asked machine names))
    (removal_steps machine rules ignored names) name user is

-- ---- whether a command is chosen

pub passes-dry : (dry_run : Bool) (steps : List RemoveStep) → dry_run ≡ true
    → chosen_outcome dry_run steps ≡ value tt
unfolding chosen_outcome
passes-dry true steps dry = refl
passes-dry false steps dry = cc

pub passes-none : (dry_run : Bool) (steps : List RemoveStep) → dry_run ≡ false
    → first_owner steps ≡ None → chosen_outcome dry_run steps ≡ value tt
unfolding chosen_outcome
passes-none false steps dry none = ap (λ o. value_unless {X = ⊤} RemoveChosen o tt) none
passes-none true steps dry none = cc

pub refuses-chosen : (dry_run : Bool) (steps : List RemoveStep) (name : List ℕ) → dry_run ≡ false
    → first_owner steps ≡ Some name
    → chosen_outcome dry_run steps ≡ end (Refused (RemoveChosen name))
unfolding chosen_outcome
refuses-chosen false steps name dry is = ap (λ o. value_unless {X = ⊤} RemoveChosen o tt) is
refuses-chosen true steps name dry is = cc

-- ---- what is taken out

pub can-go : (machine : Machine) (names : List (List ℕ)) (left : Machine)
    (r : Result Machine UnloadFault)
    → unless_refused (λ next. unload_all next names) r ≡ Ok left
    → (after : Machine) × (r ≡ Ok after)
can-go machine names left (Ok after) is = (after, refl)
can-go machine names left (Err fault) is = cc

pub same-machine : (a b : Machine) → ◌≡◌ {A = Result Machine UnloadFault} (Ok a) (Ok b) → a ≡ b
same-machine a b is = cc

-- the machine after a module is removed is the machine without it
pub removed-is : (machine : Machine) (name : List ℕ) (after : Machine)
    → unloaded machine name ≡ Ok after → after ≡ without_named machine name
removed-is machine name after is = by_place (place_of machine name) is
  where
    by_user : (j : ℕ) (u : Option ℕ)
        → option_map_or (λ k. Err (UnloadFaults.InUse k)) u (Ok (without machine j)) ≡ Ok after
        → after ≡ without machine j
    by_user j None is = sym (same-machine (without machine j) after is)
    by_user j (Some k) is
        = absurd (let e : ◌≡◌ {A = Result Machine UnloadFault} (Err (UnloadFaults.InUse k))
        (Ok after)
        = is in cc)

    by_place : (o : Option ℕ)
        → option_map_or (unloaded_at machine) o (Err UnloadFaults.NotLoaded) ≡ Ok after
        → after ≡ option_map_or (without machine) o machine
    by_place None is
        = absurd (let e : ◌≡◌ {A = Result Machine UnloadFault} (Err UnloadFaults.NotLoaded)
        (Ok after)
        = is in cc)
    by_place (Some j) is = by_user j (first_user machine j) is

-- ---- the first module for which a command is run

no-owner : (step : RemoveStep) (steps : List RemoveStep) → command_owner step ≡ None
    → first_owner (step ∷ steps) ≡ first_owner steps
no-owner step steps none = ap (λ o. first (o ∷ map command_owner steps)) none

pub owner-later : (steps : List RemoveStep) (i : ℕ) (step : RemoveStep)
    → drop i steps ≡ step ∷ drop (i + 1) steps → command_owner step ≡ None
    → first_owner (drop i steps) ≡ first_owner steps
    → first_owner (drop (i + 1) steps) ≡ first_owner steps
owner-later steps i step cut none before =
    sym (no-owner step (drop (i + 1) steps) none) ∙ ap first_owner (sym cut) ∙ before

pub owner-found : (steps : List RemoveStep) (i : ℕ) (step : RemoveStep) (name : List ℕ)
    → drop i steps ≡ step ∷ drop (i + 1) steps → command_owner step ≡ Some name
    → first_owner (drop i steps) ≡ first_owner steps → first_owner steps ≡ Some name
owner-found steps i step name cut is before =
    sym before ∙ ap first_owner cut
    ∙ ap (λ o. first (o ∷ map command_owner (drop (i + 1) steps))) is

pub owner-none : (steps : List RemoveStep) (i : ℕ) → length steps ≤ i
    → first_owner (drop i steps) ≡ first_owner steps → first_owner steps ≡ None
owner-none steps i past before = sym before ∙ ap first_owner (drop_all i steps past)

-- ---- why there are no steps

pub fault-of : (fault : RemoveFault) (o : Option RemoveFault) (name user : List ℕ)
    → fault ≡ faults.InUse name user → (fault ≡ faults.Memory) ⊎ (o ≡ Some fault)
    → o ≡ Some (faults.InUse name user)
fault-of fault o name user is (inl ran_out) =
    let wrong : faults.InUse name user ≡ faults.Memory = sym is ∙ ran_out in cc
fault-of fault o name user is (inr met) = met ∙ ap Some is
