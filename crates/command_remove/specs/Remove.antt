-- The course of `modprobe -r`: modules are taken out of the modelled machine. modprobe(8),
-- modprobe.d(5), -r.
use Rattle.std.specs.Prelude.{ℕ, Bool, true, false, List, map, Option, Some, None, ⊤, if◌then◌else◌}
use Rattle.std.specs.Option.{option_map_or}
use Rattle.km_names.specs.First.{first}
use Rattle.kmod_words.specs.declared.modprobe.ModprobeWords.{ModprobeWords}
use Rattle.kmod_words.specs.Modprobe.{region_asked}
use Rattle.modprobe_conf.specs.declared.rule.Rule.{Rule}
use Rattle.model_loader.specs.Machine.{Machine}
use Rattle.model_loader.specs.Use.{name_at, without}
use Rattle.model_unload.specs.Unload.{place_of}
use Rattle.remove_plan.specs.declared.step.RemoveStep.{RemoveStep}
use Rattle.remove_plan.specs.declared.step.RemoveStep.TheVariants.{Rmmod, Command}
use Rattle.remove_plan.specs.Removal.{in_use, is_asked}
use Rattle.remove_plan.specs.Steps.{removal_steps}
use Rattle.km_course.specs.Course.{Outcome, Stage, ◌>>=◌, each_from, given, gives, says, says_any}
use Rattle.km_course.specs.Course.Outcome.{value, end}
use Rattle.km_course.specs.declared.end.End.TheVariants.{Refused}
use Rattle.km_course.specs.declared.refusal.Refusal.TheVariants.{InUse, RemoveChosen}
use Rattle.km_course.specs.Course.{value_unless}
use Rattle.stages_files.specs.KernelModules.{modules_folder}
use Rattle.stages_known.specs.declared.known.Known.{Known}
use Rattle.stages_known.specs.Known.{reads_known}
use Rattle.stages_known.specs.Named.{names_outcome}
use Rattle.stages_loads.specs.Tables.{reads_machine}
use Rattle.command_remove.specs.declared.course.Removal.{Removal}
use Rattle.stages_loads.specs.Listed.{loads_listed}
use Rattle.command_remove.specs.Lines.{left_lines, step_lines, unloaded_line}
use Rattle.command_remove.specs.Listed.{well_formed_path}

-- ---- the steps

-- What a removal with these steps results in, where one of what is asked for is in use by another,
-- by their places, or none is.
abbrev pub steps_unless : Machine → Option (ℕ × ℕ) → List RemoveStep → Outcome (List RemoveStep)
steps_unless machine None steps = value steps
steps_unless machine (Some used) steps =
    end (Refused (InUse (name_at machine used.0) (name_at machine used.1)))

-- What the names of modules result in: the steps that take them out, or the refusal of the oldest
-- that is in use, with its oldest user.
unfoldable pub steps_outcome : Machine → List Rule → Bool → List (List ℕ)
    → Outcome (List RemoveStep)
steps_outcome machine rules ignored names =
    steps_unless machine (in_use machine (is_asked machine names))
    (removal_steps machine rules ignored names)

-- The module that a step is for, and the one for which it runs a command.
abbrev pub step_name : RemoveStep → List ℕ
step_name (Rmmod name) = name
step_name (Command name command) = name

abbrev pub command_owner : RemoveStep → Option (List ℕ)
command_owner (Rmmod name) = None
command_owner (Command name command) = Some name

-- The first module for which a command is run.
abbrev pub first_owner : List RemoveStep → Option (List ℕ)
first_owner steps = first (map command_owner steps)

-- Whether steps are carried out: with `-n` they are only printed, and else the first that runs a
-- command is refused.
unfoldable pub chosen_outcome : Bool → List RemoveStep → Outcome ⊤
chosen_outcome dry_run steps =
    if dry_run then value tt else value_unless RemoveChosen (first_owner steps) tt

-- ---- what is taken out

-- The machine without the module of this name, if it has one.
abbrev pub without_named : Machine → List ℕ → Machine
without_named machine name = option_map_or (without machine) (place_of machine name) machine

-- The line of a step's module is printed. The stage gives the machine without that module.
abbrev pub unloads_one : Machine → RemoveStep → Stage Machine
unloads_one machine step = do
  said ← says (unloaded_line (step_name step))
  gives (without_named machine (step_name step))

-- The modules of the steps are taken out, one after the other, and then what is left is printed,
-- the oldest first.
abbrev pub unloads_all : Machine → List RemoveStep → Stage ⊤
unloads_all machine steps = do
  left ← each_from unloads_one machine steps
  says_any (left_lines left.entries)

-- With `-n` nothing is taken out.
abbrev pub unloads_unless : Bool → Machine → List RemoveStep → Stage ⊤
unloads_unless true machine steps = gives tt
unloads_unless false machine steps = unloads_all machine steps

-- ---- the course

-- What is to be removed: every word is a name.
abbrev pub removal_of : Bool → ModprobeWords → Removal
removal_of dry_run asked = record {
  names = asked.words;
  use_blacklist = asked.use_blacklist;
  ignore_remove = asked.ignore_install;
  dry_run = dry_run;
}

-- The steps are printed, unless one runs a command that is chosen, and carried out.
abbrev pub carries_out : Bool → Machine → List RemoveStep → Stage ⊤
carries_out dry_run machine steps = do
  passed ← given (chosen_outcome dry_run steps)
  said ← says_any (step_lines steps)
  unloads_unless dry_run machine steps

-- The names are looked up, and the modules that they stand for are removed from the machine of the
-- listed modules.
abbrev pub removes_names : Removal → Known → Machine → Stage ⊤
removes_names removal known listed = do
  names ← given (names_outcome known removal.use_blacklist removal.names)
  steps ← given (steps_outcome listed known.rules removal.ignore_remove names)
  carries_out removal.dry_run listed steps

-- The listed modules go into the machine, and then the modules of the names are removed.
abbrev pub removes_listed : List ℕ → Removal → Known → Machine → Stage ⊤
removes_listed folder removal known machine = do
  listed ← loads_listed folder (well_formed_path known.indexes) machine known.loaded
  removes_names removal known listed

-- The course of `modprobe -r`, with `-n` or without, from the machine of a System.map.
abbrev pub removes : Bool → ModprobeWords → List ℕ → Stage ⊤
removes dry_run asked system_map = do
  known ← reads_known asked.config (modules_folder asked.dirname asked.version) asked.loaded
  machine ← reads_machine system_map asked.symvers (region_asked asked)
  removes_listed (modules_folder asked.dirname asked.version) (removal_of dry_run asked) known
      machine
