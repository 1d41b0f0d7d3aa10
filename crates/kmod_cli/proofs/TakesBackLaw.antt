-- Taking back, by the laws on the courses of removals and what a call that carries a course did.
use Rattle.std.proofs.Common.{◌≡◌, ◌∙◌, ℕ, ◌≤◌, Bool, List, [], ◌∷◌, ◌++◌, refl, sym, ap, subst}
use Rattle.std.proofs.Common.{arith, append-nil}
use Rattle.std.specs.Prelude.{codes, Some, None, Ok, ⊤}
use Rattle.outside_calls.specs.Contents.{Contents}
use Rattle.km_course.specs.Carries.{Carries, outcome_line, outcome_status}
use Rattle.km_course.specs.Course.{Outcome, Run, Stage, if_understood}
use Rattle.km_course.specs.Course.Outcome.{value}
use Rattle.km_course.specs.World.{World, Shown, Tells}
use Rattle.kmod_words.specs.declared.modprobe.ModprobeWords.{ModprobeWords}
use Rattle.kmod_words.specs.Modprobe.{modprobe_request}
use Rattle.module_facts.specs.declared.module.Module.{Module}
use Rattle.model_loader.specs.Machine.{new_machine}
use Rattle.laws_closed_plans.specs.Loads.{load_all}
use Rattle.laws_closed_plans.proofs.BindingLemmas.{loads-bind}
use Rattle.laws_removal.proofs.BackLemmas.{removals-take-back}
use Rattle.laws_removal.proofs.UnloadedLemmas.{removals-are-unloaded}
use Rattle.laws_planned_removals.specs.Courses.{IsRemovalCourse, Removing, SaysLines}
use Rattle.laws_planned_removals.proofs.CourseLemmas.{courses-remove}
use Rattle.laws_planned_removals.proofs.ListedLemmas.{listed-are-taken}
use Rattle.command_remove.specs.Remove.{removes}
use Rattle.command_modprobe.specs.Modprobe.{modprobe_requested, modprobe_course}
use Rattle.command_modprobe.proofs.CourseSteps.{is-map, removes-in}
use Rattle.kmod_cli.specs.CameTo.{CameTo}
use Rattle.kmod_cli.specs.Headline.{folder_asked}
use Rattle.kmod_cli.specs.Plans.{IsPrintedPart}
use Rattle.kmod_cli.specs.Program.{command_named, course}
use Rattle.kmod_cli.specs.TakesBack.{CanRemove, TakesBack}
use Rattle.kmod_cli.proofs.CameLemmas.{came-to}
use Rattle.kmod_cli.proofs.SaidLeft.{lines-part, lines-told}

-- the course of words that ask for a removal
removal-course : (held : Contents) (words : List (List ℕ)) (asked : ModprobeWords) (dry_run : Bool)
    (r : Removing)
    → modprobe_request words ≡ Some asked → (can : CanRemove held asked dry_run r)
    → modprobe_course words ≡ removes dry_run asked can.came.tables.map
removal-course held words asked dry_run r is can =
    let tables = can.came.tables in
    ap (if_understood modprobe_requested) is
    ∙ removes-in dry_run asked tables.map asked.mode can.mode
    (is-map asked.system_map tables.map tables.mapped) asked.fits

-- what a call came to whose course says lines
module _ (course : Stage ⊤) (old new : World) (status : ℕ) (c : Carries course old new status)
    (shown : Shown) (tells : Tells old shown) where
  came-lines : (lines : List ℕ) (outcome : Outcome ⊤)
      → SaysLines lines outcome (course.run shown.files) → outcome_status outcome ≤ 2
      → CameTo (outcome_status outcome)
      (record shown { out = shown.out ++ lines; err = shown.err ++ outcome_line outcome })
      (IsPrintedPart lines shown) old new status
  came-lines lines outcome s low =
      came-to course old new status c shown tells (outcome_status outcome)
      (record shown { out = shown.out ++ lines; err = shown.err ++ outcome_line outcome })
      (lines-told lines outcome (course.run shown.files) shown s) low (ap outcome_status s.ends)
      (lines-part lines outcome (course.run shown.files) shown new s)

  -- a refusal says nothing
  came-refused : (outcome : Outcome ⊤) → SaysLines [] outcome (course.run shown.files)
      → outcome_status outcome ≤ 2
      → CameTo (outcome_status outcome) (record shown { err = shown.err ++ outcome_line outcome })
      (IsPrintedPart [] shown) old new status
  came-refused outcome s low =
      subst (λ out. CameTo (outcome_status outcome)
      (record shown { out = out; err = shown.err ++ outcome_line outcome })
      (IsPrintedPart [] shown) old new status)
      (append-nil shown.out) (came-lines [] outcome s low)

  -- what is done has no line on err
  came-done : (lines : List ℕ) → SaysLines lines (value tt) (course.run shown.files)
      → CameTo 0 (record shown { out = shown.out ++ lines }) (IsPrintedPart lines shown) old new
      status
  came-done lines s =
      subst (λ err. CameTo 0 (record shown { out = shown.out ++ lines; err = err })
      (IsPrintedPart lines shown) old new status)
      (append-nil shown.err) (came-lines lines (value tt) s (omega arith))

pub takes-back : (words : List (List ℕ)) (old new : World) (status : ℕ)
    → Carries (modprobe_course words) old new status → TakesBack words old new status
takes-back words old new status c = λ shown tells asked is dry_run r can.
    let held = shown.files in
    let folder = folder_asked asked in
    let course = modprobe_course words in
    let same = removal-course held words asked dry_run r is can in
    let h : IsRemovalCourse dry_run asked r (course.run held) =
    subst (λ (s : Stage ⊤). IsRemovalCourse dry_run asked r (s.run held)) (sym same)
    (courses-remove held dry_run asked r can.came) in
    let taken
    = listed-are-taken held folder r.known.indexes (new_machine r.kernel r.region)
    r.known.loaded r.listed can.came.listed in
    let listed : List Module = taken.modules in
    let sound = loads-bind r.kernel r.region listed r.listed taken.loaded in
    record {
      listed = listed;
      listed_paths = taken.paths;
      listed_lines = taken.found;
      listed_files = taken.files;
      listed_load = taken.loaded;
      used
          = λ j k used. came-refused course old new status c shown tells _ (h.used j k used)
          (omega arith);
      chosen
          = λ free dry name first. came-refused course old new status c shown tells _
          (h.chosen free dry name first) (omega arith);
      printed = λ free dry. came-done course old new status c shown tells _ (h.printed free dry);
      done
          = λ free dry none. came-done course old new status c shown tells _ (h.done free dry none);
      unloaded = λ free. removals-are-unloaded r.listed r.names sound.names free;
      back = λ free older newer split removed.
          removals-take-back r.kernel r.region older newer r.listed r.names
          (ap (load_all (new_machine r.kernel r.region)) (sym split) ∙ taken.loaded) free removed;
    }

-- and where the first word is `modprobe`
pub modprobe-takes_back : (words : List (List ℕ)) (old new : World) (status : ℕ)
    → Carries (course words) old new status → (rest : List (List ℕ))
    → words ≡ codes "modprobe" ∷ rest → TakesBack rest old new status
unfolding command_named
modprobe-takes_back words old new status c rest is =
    takes-back rest old new status (subst (λ w. Carries (course w) old new status) is c)
