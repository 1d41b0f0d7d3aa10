-- What the course of a modprobe that removes results in. modprobe(8), -r.
use Rattle.std.specs.Prelude.{◌≡◌, ℕ, Bool, true, false, List, [], ◌∷◌, ◌++◌, flat_map, map, codes}
use Rattle.std.specs.Prelude.{Some, None, ⊤}
use Rattle.std.specs.List.{list_all}
use Rattle.outside_calls.specs.Contents.{Contents}
use Rattle.kmod_words.specs.declared.modprobe.ModprobeWords.{ModprobeWords}
use Rattle.km_course.specs.Course.{Act, Outcome, Run}
use Rattle.km_course.specs.Course.Act.{read, list, say, warn, put}
use Rattle.km_course.specs.Course.Outcome.{value, end}
use Rattle.km_course.specs.declared.end.End.TheVariants.{Refused}
use Rattle.km_course.specs.declared.refusal.Refusal.TheVariants.{InUse, RemoveChosen}
use Rattle.kernel_exports.specs.declared.kernel.Kernel.{Kernel}
use Rattle.module_region.specs.declared.region.Region.{Region}
use Rattle.model_loader.specs.Machine.{Machine, new_machine}
use Rattle.model_loader.specs.Use.{name_at}
use Rattle.remove_plan.specs.declared.step.RemoveStep.{RemoveStep}
use Rattle.remove_plan.specs.Removal.{in_use, is_asked, left_after, removed_by}
use Rattle.remove_plan.specs.Steps.{removal_steps}
use Rattle.stages_files.specs.KernelModules.{modules_folder}
use Rattle.stages_known.specs.declared.known.Known.{Known}
use Rattle.stages_known.specs.Known.{reads_known}
use Rattle.stages_known.specs.Named.{names_outcome}
use Rattle.laws_planned_loads.specs.Acts.{is_reading}
use Rattle.laws_planned_loads.specs.Courses.{HasMachine}
use Rattle.stages_loads.specs.Listed.{loads_listed}
use Rattle.command_remove.specs.Lines.{left_lines, line_of_two, step_lines, unloaded_line}
use Rattle.command_remove.specs.Remove.{first_owner, removes}
use Rattle.command_remove.specs.Listed.{well_formed_path}

-- What a removal is about:
-- - the kernel with addresses, and the region;
-- - what is known of the folder and the configuration;
-- - the machine after the listed modules;
-- - the names that the requested names stand for.
pub record Removing : Type 0 where
  pub kernel : Kernel
  pub region : Region
  pub known : Known
  pub listed : Machine
  pub names : List (List ℕ)

-- A course of a removal got past its lookups, over these files, and came to this removal.
pub record CameToRemoval (held : Contents) (asked : ModprobeWords) (r : Removing) : Type 0 where
  pub tables : HasMachine held asked r.kernel r.region
  pub knows : ((reads_known asked.config (modules_folder asked.dirname asked.version)
      asked.loaded).run held).outcome
      ≡ value r.known
  pub listed : ((loads_listed (modules_folder asked.dirname asked.version)
      (well_formed_path r.known.indexes)
      (new_machine r.kernel r.region) r.known.loaded).run held).outcome
      ≡ value r.listed
  pub found : names_outcome r.known asked.use_blacklist asked.words ≡ value r.names

-- Acts print these lines, and do nothing else.
abbrev pub AreSaying : List Act → List ℕ → Type 0
AreSaying [] lines = lines ≡ []
AreSaying (read path ∷ acts) lines = ⊥
AreSaying (list path ∷ acts) lines = ⊥
AreSaying (say bytes ∷ acts) lines = (rest : List ℕ) × (lines ≡ bytes ++ rest) × AreSaying acts rest
AreSaying (warn bytes ∷ acts) lines = ⊥
AreSaying (put path bytes ∷ acts) lines = ⊥

-- A course prints lines: files are read, the lines are printed, and this is the outcome.
pub record SaysLines (lines : List ℕ) (outcome : Outcome ⊤) (run : Run ⊤) : Type 0 where
  pub before : List Act
  pub reads : list_all is_reading before ≡ true
  pub saying : List Act
  pub says : AreSaying saying lines
  pub acts : run.acts ≡ before ++ saying
  pub ends : run.outcome ≡ outcome

-- The steps of the removal, and the names of the modules that are removed, the youngest first.
abbrev pub steps_asked : ModprobeWords → Known → Machine → List (List ℕ) → List RemoveStep
steps_asked asked known machine names = removal_steps machine known.rules asked.ignore_install names

abbrev pub removed_names : Machine → List (List ℕ) → List (List ℕ)
removed_names machine names = map (name_at machine) (removed_by machine names)

-- The lines of modules that are to be taken out, the lines of modules that were taken out, and the
-- lines of what is left, the oldest first.
abbrev pub taken_out_lines : Machine → List (List ℕ) → List ℕ
taken_out_lines machine names =
    flat_map (line_of_two (codes "rmmod ")) (removed_names machine names)
    ++ (flat_map unloaded_line (removed_names machine names)
    ++ left_lines (left_after machine names).entries)

-- What such a course results in, only by its machine.
pub record IsRemovalCourse (dry_run : Bool) (asked : ModprobeWords) (r : Removing) (run : Run ⊤) :
    Type 0 where
  -- a module that is asked for is used by one that isn't: the oldest such module and its oldest
  -- such user are named
  pub used : (j k : ℕ) → in_use r.listed (is_asked r.listed r.names) ≡ Some (j, k)
      → SaysLines [] (end (Refused (InUse (name_at r.listed j) (name_at r.listed k)))) run
  -- a command is run, which isn't a dry run: the first module with one is named
  pub chosen : in_use r.listed (is_asked r.listed r.names) ≡ None → dry_run ≡ false
      → (name : List ℕ) → first_owner (steps_asked asked r.known r.listed r.names) ≡ Some name
      → SaysLines [] (end (Refused (RemoveChosen name))) run
  -- in a dry run the steps are printed
  pub printed : in_use r.listed (is_asked r.listed r.names) ≡ None → dry_run ≡ true
      → SaysLines (step_lines (steps_asked asked r.known r.listed r.names)) (value tt) run
  -- otherwise all of it is done
  pub done : in_use r.listed (is_asked r.listed r.names) ≡ None → dry_run ≡ false
      → first_owner (steps_asked asked r.known r.listed r.names) ≡ None
      → SaysLines (taken_out_lines r.listed r.names) (value tt) run

-- A course that got past its lookups is such a course, over any files.
abbrev pub CoursesRemove : Type 0
CoursesRemove =
    (held : Contents) (dry_run : Bool) (asked : ModprobeWords) (r : Removing)
    → (came : CameToRemoval held asked r)
    → IsRemovalCourse dry_run asked r ((removes dry_run asked came.tables.map).run held)
