-- Taking back: what `modprobe -r` takes out of the modelled machine of the listed modules, what it
-- prints of that, and what is left. modprobe(8), -r.
use Rattle.std.specs.Prelude.{◌≡◌, ℕ, Bool, true, false, List, [], ◌++◌, reverse, Option, Some}
use Rattle.std.specs.Prelude.{None, Ok}
use Rattle.outside_calls.specs.Contents.{Contents}
use Rattle.km_course.specs.Lines.{line, refusal_text}
use Rattle.km_course.specs.World.{World, Shown, Tells}
use Rattle.km_course.specs.declared.refusal.Refusal.TheVariants.{InUse, RemoveChosen}
use Rattle.kmod_words.specs.declared.modprobe.Mode.TheVariants.{Remove}
use Rattle.kmod_words.specs.declared.modprobe.ModprobeWords.{ModprobeWords}
use Rattle.kmod_words.specs.Modprobe.{modprobe_request}
use Rattle.module_facts.specs.declared.module.Module.{Module}
use Rattle.model_loader.specs.Use.{name_at}
use Rattle.model_unload.specs.Unload.{unload_all}
use Rattle.remove_plan.specs.Removal.{in_use, is_asked, left_after}
use Rattle.command_remove.specs.Lines.{step_lines}
use Rattle.command_remove.specs.Remove.{first_owner}
use Rattle.command_remove.specs.Listed.{well_formed_path}
use Rattle.laws_closed_plans.specs.Binding.{IsLoaded}
use Rattle.laws_planned_loads.specs.Files.{AreFileModules}
use Rattle.laws_planned_removals.specs.Courses.{CameToRemoval, Removing, removed_names, steps_asked}
use Rattle.laws_planned_removals.specs.Courses.{taken_out_lines}
use Rattle.laws_planned_loads.specs.Listed.{AreListedPaths}
use Rattle.laws_removal.specs.Back.{AreRemovedModules, AreTakenBack}
use Rattle.kmod_cli.specs.CameTo.{CameTo}
use Rattle.kmod_cli.specs.Headline.{folder_asked}
use Rattle.kmod_cli.specs.Plans.{IsPrintedPart}

-- ---- where it applies

-- A removal is asked for, what is read is understood, the listed modules load, and each name stands
-- for something.
pub record CanRemove (held : Contents) (asked : ModprobeWords) (dry_run : Bool) (r : Removing) :
    Type 0 where
  pub mode : asked.mode ≡ Remove dry_run
  pub came : CameToRemoval held asked r

-- ---- what is done

-- No module that is asked for is used by one that isn't.
abbrev pub NoneInUse : Removing → Type 0
NoneInUse r = in_use r.listed (is_asked r.listed r.names) ≡ None

-- The first module for which a command is run in place of taking it out.
abbrev pub first_command : ModprobeWords → Removing → Option (List ℕ)
first_command asked r = first_owner (steps_asked asked r.known r.listed r.names)

-- What modprobe did over files and outputs with these known contents: it left new and answered this
-- status. Files are as they were.
pub record IsTakenBack (asked : ModprobeWords) (dry_run : Bool) (r : Removing) (shown : Shown)
    (old new : World) (status : ℕ) : Type 0 where
  -- the listed modules, oldest first, are loaded: each is all of a valid file, the one at the first
  -- path of its dependency line
  pub listed : List Module
  pub listed_paths : List (List ℕ)
  pub listed_lines : AreListedPaths (well_formed_path r.known.indexes)
      (reverse r.known.loaded) listed_paths
  pub listed_files : AreFileModules shown.files (folder_asked asked) listed_paths listed
  pub listed_load : IsLoaded r.kernel r.region listed r.listed
  -- if a module that is asked for is used by one that isn't, the oldest such module and its oldest
  -- such user are named, and nothing is taken out
  pub used : (j k : ℕ) → in_use r.listed (is_asked r.listed r.names) ≡ Some (j, k)
      → CameTo 1 (record shown {
        err
            = shown.err
            ++ line (refusal_text (InUse (name_at r.listed j) (name_at r.listed k)));
      })
      (IsPrintedPart [] shown) old new status
  -- if a command would be run, the first module with one is named, and nothing is taken out
  pub chosen : NoneInUse r → dry_run ≡ false → (name : List ℕ) → first_command asked r ≡ Some name
      → CameTo 1 (record shown { err = shown.err ++ line (refusal_text (RemoveChosen name)) })
      (IsPrintedPart [] shown) old new status
  -- with `-n` the lines of the steps are printed, and that is all
  pub printed : NoneInUse r → dry_run ≡ true
      → CameTo 0 (record shown
      { out = shown.out ++ step_lines (steps_asked asked r.known r.listed r.names) })
      (IsPrintedPart (step_lines (steps_asked asked r.known r.listed r.names)) shown) old new
      status
  -- otherwise the lines of what is taken out are printed, the youngest first. Then come the lines
  -- of what was taken out, and then a line for each module that is left, the oldest first. That
  -- line has the module's address, its size and the digest of its image
  pub done : NoneInUse r → dry_run ≡ false → first_command asked r ≡ None
      → CameTo 0 (record shown { out = shown.out ++ taken_out_lines r.listed r.names })
      (IsPrintedPart (taken_out_lines r.listed r.names) shown) old new status
  -- no step is refused
  pub unloaded : NoneInUse r
      → unload_all r.listed (removed_names r.listed r.names) ≡ Ok (left_after r.listed r.names)
  -- for every split of the listed modules into older and newer ones. If the removed ones are the
  -- newer ones, what is left is the machine of the older ones, loaded by themselves
  pub back : NoneInUse r → (older newer : List Module) → listed ≡ older ++ newer
      → AreRemovedModules r.listed r.names newer
      → AreTakenBack r.kernel r.region older newer r.listed r.names

-- modprobe with these words after its name, over files and outputs with known contents.
abbrev pub TakesBack : List (List ℕ) → World → World → ℕ → Type 0
TakesBack words old new status =
    (shown : Shown) → Tells old shown →
    (asked : ModprobeWords) → modprobe_request words ≡ Some asked →
    (dry_run : Bool) (r : Removing) → CanRemove shown.files asked dry_run r
    → IsTakenBack asked dry_run r shown old new status
